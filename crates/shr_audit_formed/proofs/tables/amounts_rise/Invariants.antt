-- SPDX-License-Identifier: GPL-2.0-only
use Rattle.shr_audit_formed.proofs.Common.{◌≡◌, ◌+◌, ◌<◌, ℕ, Some, slice_get, PlaceAmount, IsPlaceBefore}
use Rattle.shr_audit_formed.proofs.tables.amounts_rise.Given as goal

abbrev pub invariant-loop-i : goal.invariant-loop-i
invariant-loop-i l = (n : ℕ) (x y : PlaceAmount) → n + 1 < l.i → slice_get l.amounts n ≡ Some x → slice_get l.amounts (n + 1) ≡ Some y → IsPlaceBefore x.place y.place
