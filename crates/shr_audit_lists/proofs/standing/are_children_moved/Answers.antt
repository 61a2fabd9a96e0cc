-- SPDX-License-Identifier: GPL-2.0-only
use Rattle.std.proofs.Common.{arith}
use Rattle.shr_audit_lists.proofs.Allowing.{children_all, child_left, one_child_more}
use Rattle.shr_audit_lists.proofs.standing.are_children_moved.Goals as goal

pub loop-child-init : goal.loop-child-init
loop-child-init c = λ before told child above lt. absurd (omega arith)

pub loop-child-preserved : goal.loop-child-preserved
loop-child-preserved c = λ before told. one_child_more c.args.parents.now c.args.group c.loop-child.child before ((c.is_moved_child.ensures before told).0 c.if-not-is_moved_child.false) (c.loop-child.invariant before told)

pub returns-then-not-is_moved_child : goal.returns-then-not-is_moved_child
returns-then-not-is_moved_child c = λ before told. child_left c.args.parents.now c.args.group c.loop-child.child before (omega arith) (omega arith) c.is_moved_child.result c.if-not-is_moved_child.true (c.is_moved_child.ensures before told)

pub returns : goal.returns
returns c = λ before told. children_all c.args.parents.now c.args.group c.loop-child.child before (omega arith) (c.loop-child.invariant before told)
