-- SPDX-License-Identifier: GPL-2.0-only
use Rattle.shr_audit_reasons.proofs.SpentCommon.{◌≡◌, ◌<◌, ℕ, Some, slice_get, WalkRecord, EachAttempt, IsRunCaused}
use Rattle.shr_audit_reasons.proofs.passes.are_walks_caused.Given as goal

abbrev pub invariant-loop-walk : goal.invariant-loop-walk
invariant-loop-walk l = (n : ℕ) (x : WalkRecord) → n < l.walk-index → slice_get l.walks n ≡ Some x → EachAttempt x (λ a. IsRunCaused l.script l.report l.worker x a)
