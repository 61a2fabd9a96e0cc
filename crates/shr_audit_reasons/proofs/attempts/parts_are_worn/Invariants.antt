-- SPDX-License-Identifier: GPL-2.0-only
use Rattle.shr_audit_reasons.proofs.Common.{◌≡◌, ◌<◌, ℕ, Some, slice_get, WorkerPart, EachItem, EachAttempt, IsAttemptCaused}
use Rattle.shr_audit_reasons.proofs.attempts.parts_are_worn.Given as goal

abbrev pub invariant-loop-worker : goal.invariant-loop-worker
invariant-loop-worker l = (n : ℕ) (part : WorkerPart) → n < l.worker → slice_get l.parts n ≡ Some part → EachItem (λ w. EachAttempt w (λ a. IsAttemptCaused l.script l.report n a)) part.walks.items
