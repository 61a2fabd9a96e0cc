-- SPDX-License-Identifier: GPL-2.0-only
use Rattle.shr_audit_pools.proofs.Common.{◌≡◌, ◌<◌, ℕ, Some, slice_get, UnitsEnd, AreUnitsRight}
use Rattle.shr_audit_pools.proofs.journals.are_all_right.Given as goal

abbrev pub invariant-loop-units : goal.invariant-loop-units
invariant-loop-units l = (n : ℕ) (u : UnitsEnd) → n < l.units-index → slice_get l.ends n ≡ Some u → AreUnitsRight l.script u
