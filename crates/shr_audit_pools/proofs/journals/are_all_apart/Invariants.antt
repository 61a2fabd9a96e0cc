-- SPDX-License-Identifier: GPL-2.0-only
use Rattle.shr_audit_pools.proofs.Common.{◌≡◌, ◌≢◌, ◌+◌, ◌<◌, ℕ, Some, slice_get, UnitsEnd, units_place}
use Rattle.shr_audit_pools.proofs.journals.are_all_apart.Given as goal

abbrev pub invariant-loop-i : goal.invariant-loop-i
invariant-loop-i l = (n : ℕ) (u v : UnitsEnd) → n + 1 < l.i → slice_get l.ends n ≡ Some u → slice_get l.ends (n + 1) ≡ Some v → units_place u ≢ units_place v
