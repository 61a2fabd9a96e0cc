-- SPDX-License-Identifier: GPL-2.0-only
use Rattle.shr_audit_pools.proofs.Dues.{has_none, has_one}
use Rattle.shr_audit_pools.proofs.due.has_due.Goals as goal

pub returns-in-Some : goal.returns-in-Some
returns-in-Some c =
    has_one c.args.script.now c.args.commands.now c.args.number c.in-Some.command.now c.args.walks.now _ c.args.answer.now c.are_due.result c.in-Some.ensures.lookup.0 c.in-Some.ensures.lookup.1 c.job_due.ensures c.are_due.ensures

pub returns-in-None : goal.returns-in-None
returns-in-None c = has_none c.args.script.now c.args.commands.now c.args.number c.args.walks.now c.args.answer.now c.in-None.ensures.lookup.0
