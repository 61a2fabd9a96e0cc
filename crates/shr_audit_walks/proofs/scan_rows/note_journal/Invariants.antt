-- SPDX-License-Identifier: GPL-2.0-only
use Rattle.shr_audit_walks.proofs.ScansCommon.{◌≡◌, ◌++◌, take, filter_map, enumerate_from}
use Rattle.shr_audit_walks.proofs.Noted.{row_at}
use Rattle.shr_audit_walks.proofs.scan_rows.note_journal.Given as goal

abbrev pub invariant-loop-number : goal.invariant-loop-number
invariant-loop-number l = l.rows.items ≡ l.fn.rows.items ++ filter_map (row_at l.place) (take l.number (enumerate_from 0 l.entries))
