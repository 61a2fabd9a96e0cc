-- SPDX-License-Identifier: GPL-2.0-only
use Rattle.shr_audit_walks.proofs.Climbing.{above_fails, above_more}
use Rattle.shr_audit_walks.proofs.puts.are_above.Goals as goal

pub loop-above-preserved : goal.loop-above-preserved
loop-above-preserved c = above_more c.args.parents.now c.args.group c.args.groups.now c.loop-above.above-index c.loop-above-test.true c.loop-above.invariant (c.is_at_or_above.ensures.0 c.if-not-is_at_or_above.false)

pub returns-then-not-is_at_or_above : goal.returns-then-not-is_at_or_above
returns-then-not-is_at_or_above c = above_fails c.args.parents.now c.args.group c.args.groups.now c.loop-above.above-index c.is_at_or_above.result c.loop-above-test.true c.is_at_or_above.ensures c.if-not-is_at_or_above.true
