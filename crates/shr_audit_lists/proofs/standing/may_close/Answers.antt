-- SPDX-License-Identifier: GPL-2.0-only
use Rattle.shr_audit_lists.proofs.Allowing.{close_refused, close_told}
use Rattle.shr_audit_lists.proofs.standing.may_close.Goals as goal

pub returns-then-group-eq0 : goal.returns-then-group-eq0
returns-then-group-eq0 c = λ before told. close_refused c.args.parents.now c.args.group before c.if-group-eq0.true

pub returns : goal.returns
returns c = λ before told. close_told c.args.parents.now c.args.group before c.if-group-eq0.false c.are_children_moved-moved.result (c.are_children_moved-moved.ensures before told)
