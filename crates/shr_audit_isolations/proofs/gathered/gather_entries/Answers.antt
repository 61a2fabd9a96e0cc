-- SPDX-License-Identifier: GPL-2.0-only
use Rattle.shr_audit_isolations.proofs.Common.{each_all, IsOfTold}
use Rattle.shr_audit_isolations.proofs.Gathering.{entries_broken, entries_more, gains_more}
use Rattle.shr_audit_isolations.proofs.gathered.gather_entries.Goals as goal

pub returns-then-not-branch-clause-right : goal.returns-then-not-branch-clause-right
returns-then-not-branch-clause-right c =
    entries_broken c.args.place c.args.entries.now c.loop-entry.entry-index c.entry-item.result c.in_ok-gather_entry.field-0 c.args.table.now.items c.loop-entry.table.items c.loop-entry.invariant.gains c.loop-entry-test.true c.entry-item.is
    c.in_ok-gather_entry.ensures.right c.if-not-branch.true

pub loop-entry-preserved : goal.loop-entry-preserved
loop-entry-preserved c = record {
  right = entries_more c.args.place c.args.entries.now c.loop-entry.entry-index c.entry-item.result c.in_ok-gather_entry.field-0 c.args.table.now.items c.loop-entry.table.items c.loop-entry.invariant.gains c.loop-entry-test.true c.entry-item.is
      c.in_ok-gather_entry.ensures.right c.if-not-branch.false c.loop-entry.invariant.right;
  gains = gains_more c.args.place c.args.entries.now c.loop-entry.entry-index c.entry-item.result c.args.table.now.items c.loop-entry.table.items c.gather_entry.new.table.items c.loop-entry-test.true c.entry-item.is
      c.loop-entry.invariant.gains (c.in_ok-gather_entry.ensures.gains c.if-not-branch.false);
}

pub returns-clause-right : goal.returns-clause-right
returns-clause-right c = each_all (IsOfTold c.args.table.now.items c.args.place) c.args.entries.now c.loop-entry.entry-index c.loop-entry-test.false c.loop-entry.invariant.right
