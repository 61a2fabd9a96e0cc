-- SPDX-License-Identifier: GPL-2.0-only
use Rattle.shr_audit_walks.proofs.ScansCommon.{◌≡◌, ◌<◌, ℕ, Some, slice_get, Entry, Report, IsEntryOfPass, ArePassesOf}
use Rattle.shr_audit_walks.proofs.others.are_of_passes.Given as goal

abbrev pub invariant-loop-entry : goal.invariant-loop-entry
invariant-loop-entry l = (r : Report) → ArePassesOf r l.passes → (n : ℕ) (e : Entry) → n < l.entry-index → slice_get l.entries n ≡ Some e → IsEntryOfPass r l.place e
