-- SPDX-License-Identifier: GPL-2.0-only
use Rattle.shr_audit_rows.proofs.RowLaws.{counted_too, no_answer, no_command, part_there, state_fails}
use Rattle.shr_audit_rows.proofs.rows.is_caused_at.Goals as goal

pub returns-in_default : goal.returns-in_default
returns-in_default c = no_command c.args.script.now c.args.report.now c.args.worker c.args.number c.in_default.ensures

pub returns-in_default-answer_of : goal.returns-in_default-answer_of
returns-in_default-answer_of c = no_answer c.args.script.now c.args.report.now c.args.worker c.args.number c.in_default-answer_of.ensures

pub is_count_caused-requires-clause-there : goal.is_count_caused-requires-clause-there
is_count_caused-requires-clause-there c = part_there c.args.script.now c.args.report.now c.args.worker c.args.number c.in-Some.command.now c.in-Some-answer_of.answer.now c.in-Some.ensures c.in-Some-answer_of.ensures

pub returns-then-not-is_state_caused : goal.returns-then-not-is_state_caused
returns-then-not-is_state_caused c = state_fails c.args.script.now c.args.report.now c.args.worker c.args.number c.in-Some.command.now c.in-Some-answer_of.answer.now c.in-Some.ensures c.in-Some-answer_of.ensures c.is_state_caused.result c.is_state_caused.ensures c.if-not-is_state_caused.true

pub returns : goal.returns
returns c = counted_too c.args.script.now c.args.report.now c.args.worker c.args.number c.in-Some.command.now c.in-Some-answer_of.answer.now c.in-Some.ensures c.in-Some-answer_of.ensures c.is_count_caused.result (c.is_state_caused.ensures.0 c.if-not-is_state_caused.false) c.is_count_caused.ensures
