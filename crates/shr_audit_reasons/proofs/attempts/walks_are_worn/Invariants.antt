-- SPDX-License-Identifier: GPL-2.0-only
use Rattle.shr_audit_reasons.proofs.Common.{◌≡◌, ◌<◌, ℕ, Some, slice_get, WalkRecord, EachAttempt, IsAttemptCaused}
use Rattle.shr_audit_reasons.proofs.attempts.walks_are_worn.Given as goal

abbrev pub invariant-loop-walk : goal.invariant-loop-walk
invariant-loop-walk l = (n : ℕ) (x : WalkRecord) → n < l.walk-index → slice_get l.walks n ≡ Some x → EachAttempt x (λ a. IsAttemptCaused l.script l.report l.worker a)
