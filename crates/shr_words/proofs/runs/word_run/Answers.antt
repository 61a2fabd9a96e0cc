-- SPDX-License-Identifier: GPL-2.0-only
use Rattle.shr_words.proofs.Common.{ℕ, refl, arith, zip2_splat, length-chunk, chunk}
use Rattle.shr_words.proofs.RunLaws.{run_in}
use Rattle.shr_model.specs.Pieces.{differs}
use Rattle.shr_words.proofs.runs.word_run.Goals as goal

pub returns : goal.returns
returns c =
    let v = chunk c.args.at 16 c.args.bytes.now in
    let long = length-chunk c.args.at 16 c.args.bytes.now c.requires in
    run_in (differs 32) c.args.bytes.now c.args.at 16 _ _ c.requires (omega arith) c.type_inv.bytes c.first_set.ensures _
    (zip2_splat {Y = ℕ} _ v 16 32 long) refl
