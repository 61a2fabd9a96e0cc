-- SPDX-License-Identifier: GPL-2.0-only
use Rattle.shr_audit_lists.proofs.BagCommon.{added_by, flat_all}
use Rattle.shr_audit_lists.proofs.noted.note_journal.Goals as goal
use Rattle.shr_model.proofs.Lists.{flat_more}

pub loop-entry-preserved : goal.loop-entry-preserved
loop-entry-preserved c = flat_more added_by c.args.entries.now c.loop-entry.entry-index c.entry-item.result c.args.serials.now.items c.loop-entry.serials.items c.note_entry.new.serials.items c.loop-entry-test.true c.entry-item.is c.loop-entry.invariant
    c.in_ok-note_entry.ensures

pub returns : goal.returns
returns c = flat_all added_by c.args.entries.now c.loop-entry.entry-index c.args.serials.now.items c.loop-entry.serials.items c.loop-entry-test.false c.loop-entry.invariant
