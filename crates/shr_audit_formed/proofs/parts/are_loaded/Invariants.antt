-- SPDX-License-Identifier: GPL-2.0-only
use Rattle.shr_audit_formed.proofs.Common.{◌≡◌, ◌<◌, ℕ, Some, slice_get, Attempt, IsUnitLoaded, unit_of}
use Rattle.shr_audit_formed.proofs.parts.are_loaded.Given as goal

abbrev pub invariant-loop-attempt : goal.invariant-loop-attempt
invariant-loop-attempt l = (n : ℕ) (x : Attempt) → n < l.attempt-index → slice_get l.attempts n ≡ Some x → IsUnitLoaded l.maps (unit_of x.id)
