-- SPDX-License-Identifier: GPL-2.0-only
use Rattle.shr_audit_reasons.proofs.Common.{◌≡◌, ◌<◌, ℕ, Some, slice_get, IsAttemptCaused}
use Rattle.shr_base.specs.Walks.{Attempt}
use Rattle.shr_audit_reasons.proofs.attempts.attempts_are_worn.Given as goal

abbrev pub invariant-loop-attempt : goal.invariant-loop-attempt
invariant-loop-attempt l = (n : ℕ) (x : Attempt) → n < l.attempt-index → slice_get l.attempts n ≡ Some x → IsAttemptCaused l.script l.report l.worker x
