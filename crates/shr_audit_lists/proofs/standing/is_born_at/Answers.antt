-- SPDX-License-Identifier: GPL-2.0-only
use Rattle.shr_audit_lists.proofs.Common.{arith, eqb-true, eq-eqb}
use Rattle.shr_audit_lists.proofs.Allowing.{not_in_tree, climbed_more, born_fails, born_ends}
use Rattle.shr_audit_lists.proofs.standing.is_born_at.Goals as goal

pub loop-at-init : goal.loop-at-init
loop-at-init c = (omega arith, λ before told. (λ b. b, λ b. b))

pub loop-at-smaller : goal.loop-at-smaller
loop-at-smaller c = let test = c.loop-at-test.true in c.requires.tree.lower c.loop-at.at (omega arith) c.loop-at.invariant.0

pub loop-at-preserved : goal.loop-at-preserved
loop-at-preserved c = let test = c.loop-at-test.true in let lower = c.requires.tree.lower c.loop-at.at (omega arith) c.loop-at.invariant.0 in let lt = c.loop-at.invariant.0 in (
  omega arith,
  λ before told. climbed_more c.args.parents.now c.requires.tree c.args.group c.requires.there before c.args.birth c.loop-at.at c.loop-at.invariant.0 c.loop-at-test.true
      ((c.is_moved_child.ensures before told).0 c.if-not-is_moved_child.false) (c.loop-at.invariant.1 before told),
)

pub returns-then-not-is_moved_child : goal.returns-then-not-is_moved_child
returns-then-not-is_moved_child c = λ before told. born_fails c.args.parents.now c.requires.tree c.args.group c.requires.there before c.args.birth c.loop-at.at c.loop-at.invariant.0 c.loop-at-test.true
    c.is_moved_child.result c.if-not-is_moved_child.true (c.is_moved_child.ensures before told) (c.loop-at.invariant.1 before told)

pub returns : goal.returns
returns c = λ before told. born_ends c.args.parents.now c.requires.tree c.args.group c.requires.there before c.args.birth c.loop-at.at (omega arith) c.loop-at.invariant.0 c.loop-at-test.false
    _ (λ t. eqb-true c.loop-at.at c.args.group t, λ e. eq-eqb c.loop-at.at c.args.group e) (c.loop-at.invariant.1 before told)
