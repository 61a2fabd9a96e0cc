-- SPDX-License-Identifier: GPL-2.0-only
use Rattle.shr_audit_formed.proofs.Common.{◌≡◌, ◌+◌, ◌<◌, ℕ, Some, slice_get, PlaceEnd, IsPlaceUpTo}
use Rattle.shr_audit_formed.proofs.lists.lists_stand.Given as goal

abbrev pub invariant-loop-i : goal.invariant-loop-i
invariant-loop-i l = (n : ℕ) (x y : PlaceEnd) → n + 1 < l.i → slice_get l.ends n ≡ Some x → slice_get l.ends (n + 1) ≡ Some y → IsPlaceUpTo x.place y.place
