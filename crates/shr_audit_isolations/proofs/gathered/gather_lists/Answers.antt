-- SPDX-License-Identifier: GPL-2.0-only
use Rattle.shr_audit_isolations.proofs.Lists.{list_gains, lists_broken, lists_more}
use Rattle.shr_audit_isolations.proofs.gathered.gather_lists.Goals as goal

pub returns-then-not-branch-clause-right : goal.returns-then-not-branch-clause-right
returns-then-not-branch-clause-right c =
    lists_broken c.args.ends.now c.loop-k.k c.args.table.now.items c.loop-k.table.items c.in_ok-gather_first.field-0 c.loop-k.invariant.gains c.loop-k-test.true c.in_ok-gather_first.ensures.right c.if-not-branch.true

pub loop-k-preserved : goal.loop-k-preserved
loop-k-preserved c = record {
  right = lists_more c.args.ends.now c.loop-k.k c.args.table.now.items c.loop-k.table.items c.in_ok-gather_first.field-0 c.loop-k.invariant.gains c.in_ok-gather_first.ensures.right c.if-not-branch.false c.loop-k.invariant.right;
  gains = list_gains c.args.ends.now c.loop-k.k c.args.table.now.items c.loop-k.table.items c.gather_first.new.table.items c.loop-k.invariant.gains (c.in_ok-gather_first.ensures.gains c.if-not-branch.false);
}
