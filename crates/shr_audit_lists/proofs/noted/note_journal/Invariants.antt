-- SPDX-License-Identifier: GPL-2.0-only
use Rattle.shr_audit_lists.proofs.BagCommon.{◌≡◌, ◌++◌, take, flat_map, added_by}
use Rattle.shr_audit_lists.proofs.noted.note_journal.Given as goal

abbrev pub invariant-loop-entry : goal.invariant-loop-entry
invariant-loop-entry l = l.serials.items ≡ l.fn.serials.items ++ flat_map added_by (take l.entry-index l.entries)
