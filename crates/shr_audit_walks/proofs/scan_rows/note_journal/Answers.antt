-- SPDX-License-Identifier: GPL-2.0-only
use Rattle.shr_audit_walks.proofs.Noted.{rows_all, rows_more}
use Rattle.shr_audit_walks.proofs.scan_rows.note_journal.Goals as goal

pub loop-number-preserved : goal.loop-number-preserved
loop-number-preserved c =
    rows_more c.args.place c.args.entries.now c.loop-number.number c.index-entries-number.result c.args.rows.now.items c.loop-number.rows.items c.note_entry.new.rows.items c.loop-number-test.true c.index-entries-number.is c.loop-number.invariant
    c.in_ok-note_entry.ensures

pub returns : goal.returns
returns c = rows_all c.args.place c.args.entries.now c.loop-number.number c.args.rows.now.items c.loop-number.rows.items c.loop-number-test.false c.loop-number.invariant
