-- SPDX-License-Identifier: GPL-2.0-only
use Rattle.std.proofs.Common.{take}
use Rattle.shr_audit_pools.proofs.Journaled.{journal_broken, free_more}
use Rattle.shr_audit_pools.proofs.Stocked.{count_more, counts_more}
use Rattle.shr_audit_pools.proofs.stock.free_counts.Goals as goal

pub unreachable-requires : goal.unreachable-requires
unreachable-requires c =
    journal_broken c.args.entries.now c.loop-entry.entry-index _ c.loop-entry-test.true (c.in-None.ensures.right (take c.loop-entry.entry-index c.args.entries.now) c.loop-entry.invariant.free) c.requires

pub loop-entry-preserved : goal.loop-entry-preserved
loop-entry-preserved c =
    let es = c.args.entries.now in
    let i = c.loop-entry.entry-index in
    let now = c.in-Some.ensures.right (take i es) c.loop-entry.invariant.free in
    let next = free_more es i _ c.loop-entry.free c.in-Some.next c.loop-entry-test.true c.loop-entry.invariant.free now.1 in
    record {
      few = c.in-Some.ensures.few;
      free = next;
      count = count_more c.loop-entry.counts.items c.push-in-loop-entry.new.self.items i _ c.loop-entry.invariant.count c.in_ok-push-2.ensures.items;
      each = counts_more es i _ c.loop-entry.counts.items c.push-in-loop-entry.new.self.items c.loop-entry.invariant.count c.loop-entry.invariant.each c.in_ok-push-2.ensures.items next;
    }
