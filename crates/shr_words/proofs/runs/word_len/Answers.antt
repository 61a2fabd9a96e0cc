-- SPDX-License-Identifier: GPL-2.0-only
use Rattle.shr_words.proofs.Common.{arith}
use Rattle.shr_words.proofs.RunLaws.{front_is}
use Rattle.shr_model.specs.Pieces.{differs}
use Rattle.shr_words.proofs.runs.word_len.Goals as goal

pub returns-then-run-lt-WORD_LANES-clause-front : goal.returns-then-run-lt-WORD_LANES-clause-front
returns-then-run-lt-WORD_LANES-clause-front c =
    let run = c.word_run-run.ensures in
    front_is (differs 32) c.args.bytes.now c.loop-n.n c.loop-n.n 16 c.word_run-run.result (omega arith) c.loop-n.invariant.1 run (omega (arith, run.0.0)) (λ _. c.if-run-lt-WORD_LANES.true)

pub returns-clause-front : goal.returns-clause-front
returns-clause-front c =
    let run = c.word_run.ensures in
    front_is (differs 32) c.args.bytes.now c.loop-n.n _ 16 c.word_run.result (omega arith) c.loop-n.invariant.1 run (omega (arith, run.0.0)) (λ more. omega arith)
