-- SPDX-License-Identifier: GPL-2.0-only
use Rattle.shr_words.proofs.Common.{ℕ, leb, cond, refl, arith, zip2_splat, length-chunk, chunk, is_name_byte, bit_and}
use Rattle.shr_words.proofs.RunLaws.{joined, splat_is, run_in}
use Rattle.shr_words.proofs.runs.name_run.Goals as goal

pub returns : goal.returns
returns c =
    let v = chunk c.args.at 8 c.args.bytes.now in
    let long = length-chunk c.args.at 8 c.args.bytes.now c.requires in
    run_in is_name_byte c.args.bytes.now c.args.at 8 _ _ c.requires (omega arith) c.type_inv.bytes c.first_set.ensures _
    (joined bit_and _ _ v
    (joined bit_and _ _ v
    (joined (λ a b. cond (leb a b) 255 0) _ _ v (splat_is v 8 26 long) (zip2_splat {Y = ℕ} _ v 8 97 long))
    (joined (λ a b. cond (leb a b) 255 0) _ _ v (splat_is v 8 10 long) (zip2_splat {Y = ℕ} _ v 8 48 long)))
    (zip2_splat {Y = ℕ} _ v 8 95 long)) refl
