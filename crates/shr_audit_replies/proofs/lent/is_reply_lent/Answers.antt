-- SPDX-License-Identifier: GPL-2.0-only
use Rattle.shr_audit_replies.proofs.LendingCommon.{at, value_first}
use Rattle.shr_audit_replies.proofs.LentReplying.{hit_lends}
use Rattle.shr_audit_replies.proofs.lent.is_reply_lent.Goals as goal

pub returns-else-not-is_entry : goal.returns-else-not-is_entry
returns-else-not-is_entry c = hit_lends c.args.reply.now c.in-Hit.cited (at c.args.place c.args.n) c.in-Hit.value (value_first c.args.n c.args.found.now) c.is_value_first-lent.result c.in-Hit.is (c.is_entry.ensures.0 c.if-not-is_entry.false) c.is_value_first-lent.ensures
