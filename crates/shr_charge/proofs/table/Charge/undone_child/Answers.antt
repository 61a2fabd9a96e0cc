-- SPDX-License-Identifier: GPL-2.0-only
use Rattle.shr_charge.proofs.Common.{sym, ◌∙◌, arith, is_undone_child, hierarchy_of}
use Rattle.shr_charge.proofs.Searches.{find_here, find_more}
use Rattle.shr_charge.proofs.table.Charge.undone_child.Goals as goal

pub returns-then-is_undone : goal.returns-then-is_undone
returns-then-is_undone c = sym (find_here (is_undone_child (hierarchy_of c.args.self.now.shape) c.args.entries.now c.args.group) c.loop-child.child c.loop-child.invariant _ (omega arith) (sym (c.is_undone.ensures c.args.entries.now c.of-marks.ensures) ∙ c.if-is_undone.true))

pub loop-child-preserved : goal.loop-child-preserved
loop-child-preserved c = find_more (is_undone_child (hierarchy_of c.args.self.now.shape) c.args.entries.now c.args.group) c.loop-child.child c.loop-child.invariant (sym (c.is_undone.ensures c.args.entries.now c.of-marks.ensures) ∙ c.if-is_undone.false)
