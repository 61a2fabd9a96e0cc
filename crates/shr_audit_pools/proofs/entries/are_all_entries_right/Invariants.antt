-- SPDX-License-Identifier: GPL-2.0-only
use Rattle.shr_audit_pools.proofs.Common.{◌≡◌, ◌<◌, ℕ, Some, slice_get, UnitsEnd, AreEntriesRight}
use Rattle.shr_audit_pools.proofs.entries.are_all_entries_right.Given as goal

abbrev pub invariant-loop-units : goal.invariant-loop-units
invariant-loop-units l = (n : ℕ) (u : UnitsEnd) → n < l.units-index → slice_get l.units-items n ≡ Some u → AreEntriesRight l.script l.report u
