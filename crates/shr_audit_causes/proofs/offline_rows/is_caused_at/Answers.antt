-- SPDX-License-Identifier: GPL-2.0-only
use Rattle.shr_audit_causes.proofs.OfflinesCommon.{ℕ, Option, subst, arith, Decides, IsMovedSo}
use Rattle.shr_audit_causes.proofs.OfflineRowLaws.{answer_there, both_so, carried_fails, no_answer, no_command}
use Rattle.shr_audit_causes.proofs.offline_rows.is_caused_at.Goals as goal

pub returns-in_default : goal.returns-in_default
returns-in_default c = no_command c.args.script.now c.args.report.now c.args.worker c.args.number c.in_default.ensures

pub returns-in_default-answer_of : goal.returns-in_default-answer_of
returns-in_default-answer_of c = no_answer c.args.script.now c.args.report.now c.args.worker c.args.number c.in_default-answer_of.ensures

pub is_carried_so-requires-clause-there : goal.is_carried_so-requires-clause-there
is_carried_so-requires-clause-there c =
    let lt = answer_there c.args.script.now c.args.report.now c.args.worker c.args.number c.in-Some.command.now c.in-Some-answer_of.answer.now c.in-Some.ensures c.in-Some-answer_of.ensures in
    let long = c.requires.carried.count in
    omega (arith, lt, long)

pub returns-then-not-is_carried_so : goal.returns-then-not-is_carried_so
returns-then-not-is_carried_so c = carried_fails c.args.script.now c.args.report.now c.args.worker c.args.number c.in-Some.command.now c.in-Some-answer_of.answer.now c.in-Some.ensures c.in-Some-answer_of.ensures c.is_carried_so.result c.is_carried_so.ensures c.if-not-is_carried_so.true

pub returns : goal.returns
returns c = both_so c.args.script.now c.args.report.now c.args.worker c.args.number c.in-Some.command.now c.in-Some-answer_of.answer.now c.in-Some.ensures c.in-Some-answer_of.ensures c.is_moved_so.result (c.is_carried_so.ensures.0 c.if-not-is_carried_so.false)
    (subst (λ (o : Option ℕ). Decides c.is_moved_so.result (IsMovedSo c.args.script.now c.args.report.now c.args.worker o c.in-Some-answer_of.answer.now.reply)) c.group_named-group.ensures c.is_moved_so.ensures)
