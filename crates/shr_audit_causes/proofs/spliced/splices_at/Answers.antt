-- SPDX-License-Identifier: GPL-2.0-only
use Rattle.shr_audit_causes.proofs.SplicedLaws.{no_answer, no_command, not_spliced, splices}
use Rattle.shr_audit_causes.proofs.spliced.splices_at.Goals as goal

pub returns-in_default : goal.returns-in_default
returns-in_default c = no_command c.args.script.now c.args.report.now c.args.worker c.args.number c.in_default.ensures

pub returns-in_default-answer_of : goal.returns-in_default-answer_of
returns-in_default-answer_of c = no_answer c.args.script.now c.args.report.now c.args.worker c.args.number c.in_default-answer_of.ensures

pub returns-then-not-may_have_spliced : goal.returns-then-not-may_have_spliced
returns-then-not-may_have_spliced c = not_spliced c.args.script.now c.args.report.now c.args.worker c.args.number c.in-Some.command.now c.in-Some-answer_of.answer.now c.in-Some.ensures c.in-Some-answer_of.ensures c.may_have_spliced.result c.may_have_spliced.ensures c.if-not-may_have_spliced.true

pub returns : goal.returns
returns c = splices c.args.script.now c.args.report.now c.args.worker c.args.number c.in-Some.command.now c.in-Some-answer_of.answer.now c.in-Some.ensures c.in-Some-answer_of.ensures c.may_have_spliced.result c.offlined.result c.may_have_spliced.ensures c.if-not-may_have_spliced.false c.offlined.ensures
