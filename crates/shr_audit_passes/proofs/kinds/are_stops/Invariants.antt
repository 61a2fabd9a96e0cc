-- SPDX-License-Identifier: GPL-2.0-only
use Rattle.shr_audit_passes.proofs.Common.{◌≡◌, ◌<◌, ℕ, Some, slice_get, Attempt, IsStopAt}
use Rattle.shr_audit_passes.proofs.kinds.are_stops.Given as goal

abbrev pub invariant-loop-attempt : goal.invariant-loop-attempt
invariant-loop-attempt l = (n : ℕ) (a : Attempt) → n < l.attempt-index → slice_get l.attempt-items n ≡ Some a → IsStopAt l.script l.report l.walk a
