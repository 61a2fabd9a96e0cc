-- SPDX-License-Identifier: GPL-2.0-only
use Rattle.shr_audit_lists.proofs.Common.{sym, ◌∙◌, arith, child_takes}
use Rattle.shr_audit_lists.proofs.Allowing.{move_refused, move_told}
use Rattle.shr_audit_lists.proofs.standing.may_move_in.Goals as goal

pub bounds-moved-child : goal.bounds-moved-child
bounds-moved-child c = let lt = (child_takes c.args.parents.now c.args.group c.args.child (sym c.is_child.ensures ∙ c.if-not-is_child.false)).there in let each = c.requires in omega arith

pub returns-then-not-is_child : goal.returns-then-not-is_child
returns-then-not-is_child c = λ before told. move_refused c.args.parents.now c.args.group c.args.child before (sym c.is_child.ensures ∙ c.if-not-is_child.true)

pub returns : goal.returns
returns c = let own = sym c.is_child.ensures ∙ c.if-not-is_child.false in
    let lt = (child_takes c.args.parents.now c.args.group c.args.child own).there in let each = c.requires in
    λ before told. move_told c.args.parents.now c.args.group c.args.child before own _ (told c.args.child (omega arith))
