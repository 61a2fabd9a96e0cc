-- SPDX-License-Identifier: GPL-2.0-only
use Rattle.shr_audit_formed.proofs.Eachs.{each_all, each_more}
use Rattle.shr_audit_walks.specs.Others.{IsEntryOfPass}
use Rattle.shr_audit_walks.proofs.others.are_of_passes.Goals as goal

pub loop-entry-preserved : goal.loop-entry-preserved
loop-entry-preserved c = λ r passes.
    each_more (IsEntryOfPass r c.args.place) c.args.entries.now c.loop-entry.entry-index c.entry-item.result c.loop-entry-test.true c.entry-item.is (c.loop-entry.invariant r passes) ((c.is_of_pass.ensures r passes).0 c.if-not-is_of_pass.false)

pub returns : goal.returns
returns c = λ r passes. each_all (IsEntryOfPass r c.args.place) c.args.entries.now c.loop-entry.entry-index c.loop-entry-test.false (c.loop-entry.invariant r passes)
