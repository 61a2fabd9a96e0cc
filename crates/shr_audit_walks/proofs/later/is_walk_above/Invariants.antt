-- SPDX-License-Identifier: GPL-2.0-only
use Rattle.shr_audit_walks.proofs.LaterCommon.{◌≡◌, ◌<◌, ℕ, Some, slice_get, Attempt, place_in, IsOutcomeAbove}
use Rattle.shr_audit_walks.proofs.later.is_walk_above.Given as goal

abbrev pub invariant-loop-attempt : goal.invariant-loop-attempt
invariant-loop-attempt l = (k : ℕ) (a : Attempt) → k < l.attempt-index → slice_get l.attempt-items k ≡ Some a → IsOutcomeAbove l.cited (place_in l.walk a.id) a.outcome
