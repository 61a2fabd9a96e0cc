-- SPDX-License-Identifier: GPL-2.0-only
use Rattle.shr_audit_passes.proofs.Common.{◌≡◌, ◌<◌, ℕ, Some, slice_get, Attempt, IsKindAt}
use Rattle.shr_audit_passes.proofs.kinds.are_kinds_at.Given as goal

abbrev pub invariant-loop-attempt : goal.invariant-loop-attempt
invariant-loop-attempt l = (n : ℕ) (a : Attempt) → n < l.attempt-index → slice_get l.attempts n ≡ Some a → IsKindAt l.script l.report l.priority a
