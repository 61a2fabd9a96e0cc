-- SPDX-License-Identifier: GPL-2.0-only
use Rattle.shr_audit_replies.specs.Lent.{value_first}
use Rattle.shr_audit_replies.proofs.LentReplying.{answer_lends}
use Rattle.shr_audit_replies.proofs.lent.is_lent_to.Goals as goal

pub returns-in-Some : goal.returns-in-Some
returns-in-Some c = answer_lends c.args.report.now c.args.place c.args.n c.args.by c.in-Some.answer.now (value_first c.args.n c.args.found.now) c.is_reply_lent.result c.in-Some.ensures c.is_reply_lent.ensures
