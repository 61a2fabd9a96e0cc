-- SPDX-License-Identifier: GPL-2.0-only
use Rattle.shr_audit_lists.proofs.Common.{◌≡◌, ℕ, true, is_child, at_group, IsPairedAt, journals_of, below_more}
use Rattle.shr_audit_lists.proofs.paired.are_children_paired.Goals as goal

pub loop-child-preserved : goal.loop-child-preserved
loop-child-preserved c = below_more (λ (n : ℕ). is_child c.args.parents.now c.args.place.group n ≡ true → IsPairedAt c.args.parents.now (journals_of c.args.report.now) (at_group c.args.place n)) c.loop-child.child
    c.loop-child.invariant (c.is_child_paired.ensures.0 c.if-not-is_child_paired.false)
