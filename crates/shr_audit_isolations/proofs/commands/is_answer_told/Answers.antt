-- SPDX-License-Identifier: GPL-2.0-only
use Rattle.shr_audit_isolations.proofs.Commanded.{answered_none, answered_one}
use Rattle.shr_audit_isolations.proofs.commands.is_answer_told.Goals as goal

pub returns-in-Some : goal.returns-in-Some
returns-in-Some c = answered_one c.args.commands.now c.args.number c.in-Some.command.now c.args.isolations.now c.args.answer.now c.tells_of_all.result c.in-Some.ensures.lookup.0 c.in-Some.ensures.lookup.1 c.tells_of_all.ensures

pub returns-in-None : goal.returns-in-None
returns-in-None c = answered_none c.args.commands.now c.args.number c.args.isolations.now c.args.answer.now c.in-None.ensures.lookup.0
