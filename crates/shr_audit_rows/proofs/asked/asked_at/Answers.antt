-- SPDX-License-Identifier: GPL-2.0-only
use Rattle.shr_audit_rows.proofs.AskedLaws.{no_answer, no_command, said_here}
use Rattle.shr_audit_rows.proofs.asked.asked_at.Goals as goal

pub returns-in_default : goal.returns-in_default
returns-in_default c = no_command c.args.script.now c.args.report.now c.args.worker c.args.number c.in_default.ensures

pub returns-in_default-answer_of : goal.returns-in_default-answer_of
returns-in_default-answer_of c = no_answer c.args.script.now c.args.report.now c.args.worker c.args.number c.in-Some.command.now c.in-Some.ensures c.in_default-answer_of.ensures

pub returns : goal.returns
returns c = said_here c.args.script.now c.args.report.now c.args.worker c.args.number c.in-Some.command.now c.in-Some-answer_of.answer.now c.asked_in.result c.in-Some.ensures c.in-Some-answer_of.ensures c.asked_in.ensures
