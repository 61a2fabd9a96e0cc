-- SPDX-License-Identifier: GPL-2.0-only
use Rattle.shr_audit_passes.proofs.Common.{◌≡◌, ◌<◌, ℕ, Some, slice_get, Attempt, IsPlaced}
use Rattle.shr_audit_passes.proofs.alone.are_placed.Given as goal

abbrev pub invariant-loop-attempt : goal.invariant-loop-attempt
invariant-loop-attempt l = (n : ℕ) (a : Attempt) → n < l.attempt-index → slice_get l.attempts n ≡ Some a → IsPlaced l.group a.outcome
