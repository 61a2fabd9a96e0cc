-- SPDX-License-Identifier: GPL-2.0-only
use Rattle.std.proofs.Common.{refl, arith}
use Rattle.shr_audit_walks.proofs.Climbing.{at_top, climbed, found, lower}
use Rattle.shr_audit_walks.proofs.puts.is_at_or_above.Goals as goal

pub returns-then-at-above : goal.returns-then-at-above
returns-then-at-above c = found c.args.parents.now c.requires c.args.above c.loop-at.at c.args.group c.loop-at.invariant c.if-at-above.true c.loop-at-test.true

pub loop-at-preserved : goal.loop-at-preserved
loop-at-preserved c = climbed c.args.parents.now c.requires c.args.above c.loop-at.at c.args.group c.loop-at.invariant c.parent_of-at.result c.parent_of-at.ensures c.loop-at-test.true c.if-at-above.false

pub loop-at-smaller : goal.loop-at-smaller
loop-at-smaller c =
    let less = lower c.args.parents.now c.requires c.loop-at.at c.loop-at-test.true in
    let is = c.parent_of-at.ensures in
    omega (arith, less, is)

pub returns : goal.returns
returns c = at_top c.args.parents.now c.requires c.args.above c.loop-at.at c.args.group c.loop-at.invariant c.loop-at-test.false _ refl
