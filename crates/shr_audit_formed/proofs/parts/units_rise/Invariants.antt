-- SPDX-License-Identifier: GPL-2.0-only
use Rattle.shr_audit_formed.proofs.Common.{◌≡◌, ◌+◌, ◌<◌, ℕ, Some, slice_get, MapSeen}
use Rattle.shr_audit_formed.proofs.parts.units_rise.Given as goal

abbrev pub invariant-loop-i : goal.invariant-loop-i
invariant-loop-i l = (n : ℕ) (x y : MapSeen) → n + 1 < l.i → slice_get l.maps n ≡ Some x → slice_get l.maps (n + 1) ≡ Some y → x.unit < y.unit
