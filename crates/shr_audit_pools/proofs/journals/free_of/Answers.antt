-- SPDX-License-Identifier: GPL-2.0-only
use Rattle.std.proofs.Common.{take}
use Rattle.shr_audit_pools.proofs.Journaled.{free_more, journal_broken, journal_more}
use Rattle.shr_audit_pools.proofs.journals.free_of.Goals as goal

pub returns-in-None-clause-none : goal.returns-in-None-clause-none
returns-in-None-clause-none c = journal_broken c.args.entries.now c.loop-entry.entry-index _ c.loop-entry-test.true (c.in-None.ensures.right (take c.loop-entry.entry-index c.args.entries.now) c.loop-entry.invariant.free)

pub loop-entry-preserved : goal.loop-entry-preserved
loop-entry-preserved c =
    let es = c.args.entries.now in
    let i = c.loop-entry.entry-index in
    let now = c.in-Some.ensures.right (take i es) c.loop-entry.invariant.free in
    record {
      few = c.in-Some.ensures.few;
      free = free_more es i _ c.loop-entry.free c.in-Some.next c.loop-entry-test.true c.loop-entry.invariant.free now.1;
      right = journal_more es i _ c.loop-entry-test.true c.loop-entry.invariant.right now.0;
    }
