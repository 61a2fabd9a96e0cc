-- SPDX-License-Identifier: GPL-2.0-only
use Rattle.shr_audit_causes.proofs.UnregisterRowLaws.{end_fails, no_answer, no_command, part_there, reason_too}
use Rattle.shr_audit_causes.proofs.unregister_rows.is_caused_at.Goals as goal

pub returns-in_default : goal.returns-in_default
returns-in_default c = no_command c.args.script.now c.args.report.now c.args.worker c.args.number c.in_default.ensures

pub returns-in_default-answer_of : goal.returns-in_default-answer_of
returns-in_default-answer_of c = no_answer c.args.script.now c.args.report.now c.args.worker c.args.number c.in_default-answer_of.ensures

pub returns-then-not-has_end : goal.returns-then-not-has_end
returns-then-not-has_end c = end_fails c.args.script.now c.args.report.now c.args.worker c.args.number c.in-Some.command.now c.in-Some-answer_of.answer.now c.in-Some.ensures c.in-Some-answer_of.ensures c.has_end.result c.has_end.ensures c.if-not-has_end.true

pub has_reason-requires-clause-there : goal.has_reason-requires-clause-there
has_reason-requires-clause-there c = part_there c.args.script.now c.args.report.now c.args.worker c.args.number c.in-Some.command.now c.in-Some-answer_of.answer.now c.in-Some.ensures c.in-Some-answer_of.ensures

pub returns : goal.returns
returns c = reason_too c.args.script.now c.args.report.now c.args.worker c.args.number c.in-Some.command.now c.in-Some-answer_of.answer.now c.in-Some.ensures c.in-Some-answer_of.ensures c.has_reason.result (c.has_end.ensures.0 c.if-not-has_end.false) c.has_reason.ensures
