-- SPDX-License-Identifier: GPL-2.0-only
use Rattle.shr_words.proofs.Common.{arith, is_visible}
use Rattle.shr_words.proofs.RunLaws.{front_is}
use Rattle.shr_words.proofs.runs.visible_len.Goals as goal

pub returns-then-run-lt-LANES-clause-front : goal.returns-then-run-lt-LANES-clause-front
returns-then-run-lt-LANES-clause-front c =
    let run = c.visible_run-run.ensures in
    front_is is_visible c.args.bytes.now c.loop-n.n c.loop-n.n 8 c.visible_run-run.result (omega arith) c.loop-n.invariant.1 run (omega (arith, run.0.0)) (λ _. c.if-run-lt-LANES.true)

pub returns-clause-front : goal.returns-clause-front
returns-clause-front c =
    let run = c.visible_run.ensures in
    front_is is_visible c.args.bytes.now c.loop-n.n _ 8 c.visible_run.result (omega arith) c.loop-n.invariant.1 run (omega (arith, run.0.0)) (λ more. omega arith)
