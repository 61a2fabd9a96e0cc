-- SPDX-License-Identifier: GPL-2.0-only
use Rattle.std.proofs.Common.{arith}
use Rattle.shr_audit_replies.proofs.OnceLaws.{last_one, next_decides, none_printed}
use Rattle.shr_audit_replies.proofs.once.is_printed_once.Goals as goal

pub returns-in_default : goal.returns-in_default
returns-in_default c = none_printed c.args.ends.now c.args.place c.in_default.ensures.none

pub returns-then-k-ends : goal.returns-then-k-ends
returns-then-k-ends c = last_one c.args.ends.now c.args.place c.in-Some.k c.in-Some.ensures.some c.if-k-ends.true

pub returns : goal.returns
returns c = next_decides c.args.ends.now c.args.place c.in-Some.k c.in-Some.ensures.some c.requires c.index-ends-k.result c.is_same-again.result (omega (arith, c.if-k-ends.false)) c.is_same-again.ensures
