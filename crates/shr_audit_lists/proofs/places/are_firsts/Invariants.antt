-- SPDX-License-Identifier: GPL-2.0-only
use Rattle.shr_audit_lists.proofs.Common.{◌≡◌, ◌<◌, ℕ, Some, slice_get, PlaceEnd, IsFirst}
use Rattle.shr_audit_lists.proofs.places.are_firsts.Given as goal

abbrev pub invariant-loop-k : goal.invariant-loop-k
invariant-loop-k l = (n : ℕ) (x : PlaceEnd) → n < l.k → slice_get l.ends n ≡ Some x → IsFirst l.ends n x.place
