-- SPDX-License-Identifier: GPL-2.0-only
-- Places that are printed once, and one that is printed twice.
use Rattle.shr_audit_replies.proofs.OnceCommon.{◌≡◌, ℕ, [], ◌∷◌, Some, refl, arith, slice_get, PlaceEnd, Place, IsPrintedOnce}

nowhere : (place : Place) → IsPrintedOnce [] place
nowhere place k end at same m x lt there = absurd (no_item m x there)
  where
    no_item : (n : ℕ) (y : PlaceEnd) → slice_get [] n ≡ Some y → ⊥
    no_item n y e = cc

twice : (end : PlaceEnd) → IsPrintedOnce (end ∷ end ∷ []) end.place → ⊥
twice end h = h 1 end refl refl 0 end (omega arith) refl refl
