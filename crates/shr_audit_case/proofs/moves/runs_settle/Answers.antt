-- SPDX-License-Identifier: GPL-2.0-only
use Rattle.std.proofs.Common.{◌∙◌, sym, arith}
use Rattle.shr_audit_case.proofs.Settling.{run_goes_on, next_run, run_fails, last_run}
use Rattle.shr_audit_case.proofs.moves.runs_settle.Goals.{then-m-key, else-m-key+else-up-down}
use Rattle.shr_audit_case.proofs.moves.runs_settle.Goals as goal

pub loop-m-preserved : goal.loop-m-preserved
loop-m-preserved c = elim c.if-m-key.branch [
  | then-m-key w ↦ run_goes_on c.args.moves.now c.loop-m.m-index _ c.loop-m.key c.loop-m.up c.loop-m.down _ _ _ c.loop-m-test.true w.if-m-key.true w.key-is w.up-is w.down-is ∙ c.loop-m.invariant
  | else-m-key+else-up-down w ↦ next_run c.args.moves.now c.loop-m.m-index _ c.loop-m.key c.loop-m.up c.loop-m.down _ _ _ c.loop-m-test.true w.if-m-key.false w.if-up-down.false w.key-is w.up-is w.down-is ∙ c.loop-m.invariant
]

pub returns-then-up-down : goal.returns-then-up-down
returns-then-up-down c = sym (run_fails c.args.moves.now c.loop-m.m-index _ c.loop-m.key c.loop-m.up c.loop-m.down c.loop-m-test.true c.if-m-key.false (let h = c.loop-m.auto.up-fits in omega arith) (let h = c.loop-m.auto.down-fits in omega arith) c.if-up-down.true) ∙ c.loop-m.invariant

pub returns : goal.returns
returns c = sym (last_run c.args.moves.now c.loop-m.m-index c.loop-m.key c.loop-m.up c.loop-m.down c.loop-m-test.false (let h = c.loop-m.auto.up-fits in omega arith) (let h = c.loop-m.auto.down-fits in omega arith)) ∙ c.loop-m.invariant
