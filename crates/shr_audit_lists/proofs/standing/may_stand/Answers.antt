-- SPDX-License-Identifier: GPL-2.0-only
use Rattle.shr_audit_lists.proofs.Allowing.{stands_closed, stand_told}
use Rattle.shr_audit_lists.proofs.standing.may_stand.Goals as goal

pub returns-then-closed : goal.returns-then-closed
returns-then-closed c = λ before told is. stands_closed c.args.parents.now c.args.group before c.args.entry.now c.args.closed c.if-closed.true is

pub returns : goal.returns
returns c = λ before told is. stand_told c.args.parents.now c.args.group before c.args.entry.now c.args.closed c.if-closed.false is c.is_allowed-allowed.result (c.is_allowed-allowed.ensures before told)
