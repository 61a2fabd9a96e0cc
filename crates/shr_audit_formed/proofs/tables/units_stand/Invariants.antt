-- SPDX-License-Identifier: GPL-2.0-only
use Rattle.shr_audit_formed.proofs.Common.{◌≡◌, ◌+◌, ◌<◌, ℕ, Some, slice_get, UnitsEnd, units_place, IsPlaceUpTo}
use Rattle.shr_audit_formed.proofs.tables.units_stand.Given as goal

abbrev pub invariant-loop-i : goal.invariant-loop-i
invariant-loop-i l = (n : ℕ) (x y : UnitsEnd) → n + 1 < l.i → slice_get l.pools n ≡ Some x → slice_get l.pools (n + 1) ≡ Some y → IsPlaceUpTo (units_place x) (units_place y)
