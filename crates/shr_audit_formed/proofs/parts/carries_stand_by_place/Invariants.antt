-- SPDX-License-Identifier: GPL-2.0-only
use Rattle.shr_audit_formed.proofs.Common.{◌≡◌, ◌+◌, ◌<◌, ℕ, Some, slice_get, Carry, IsCarryBefore}
use Rattle.shr_audit_formed.proofs.parts.carries_stand_by_place.Given as goal

abbrev pub invariant-loop-i : goal.invariant-loop-i
invariant-loop-i l = (n : ℕ) (x y : Carry) → n + 1 < l.i → slice_get l.carries n ≡ Some x → slice_get l.carries (n + 1) ≡ Some y → IsCarryBefore x y
