-- SPDX-License-Identifier: GPL-2.0-only
use Rattle.std.proofs.Common.{◌∙◌, sym}
use Rattle.shr_audit_sweep.proofs.Sweeping.{swept_cut, swept_told}
use Rattle.shr_audit_sweep.proofs.answers.is_swept.Goals as goal
use Rattle.shr_audit_sweep.proofs.answers.is_swept.Goals.{then-is_none, else-is_none}

pub returns-then-is_told : goal.returns-then-is_told
returns-then-is_told c = elim c.if-is_none.branch [
  | then-is_none w ↦ swept_told c.args.script.now c.args.sweep c.args.walks.now c.args.answer.now c.is_none.result w.is_told.result c.are_sweep_walks.result c.is_none.ensures w.if-is_none.true w.is_told.ensures (sym w.value-is ∙ c.if-is_told.true) c.are_sweep_walks.ensures
  | else-is_none w ↦ swept_cut c.args.script.now c.args.sweep c.args.walks.now c.args.answer.now c.if-is_none.value c.are_sweep_walks.result (w.value-is ∙ w.if-is_none.false) c.if-is_told.true
]
