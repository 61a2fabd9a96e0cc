-- SPDX-License-Identifier: GPL-2.0-only
use Rattle.shr_audit_walks.proofs.Refusing.{limit_found, no_limit}
use Rattle.shr_audit_walks.proofs.refusals.limit_of.Goals as goal

pub returns-in-Some : goal.returns-in-Some
returns-in-Some c = limit_found c.args.script.now c.args.group c.in-Some.group.now c.if-group-eq0.false c.in-Some.ensures

pub returns-in-None : goal.returns-in-None
returns-in-None c = no_limit c.args.script.now c.args.group c.if-group-eq0.false c.in-None.ensures
