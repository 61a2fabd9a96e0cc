-- SPDX-License-Identifier: GPL-2.0-only
use Rattle.shr_audit_replies.proofs.Common.{Command, command_at, serial_of, IsAnswered}
use Rattle.shr_audit_replies.proofs.answered.is_answered.Goals as goal
use Rattle.shr_audit_formed.proofs.Eachs.{at_some}

pub returns-in-Some : goal.returns-in-Some
returns-in-Some c =
    let by = serial_of c.args.worker c.args.number in
    at_some (command_at c.args.script.now by) c.in-Some.command.now (λ (d : Command). IsAnswered c.args.script.now c.args.report.now by d c.args.answer.now) c.may_answer.result c.in-Some.ensures c.may_answer.ensures
