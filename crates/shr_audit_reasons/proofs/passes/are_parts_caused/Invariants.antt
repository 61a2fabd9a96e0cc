-- SPDX-License-Identifier: GPL-2.0-only
use Rattle.shr_audit_reasons.proofs.SpentCommon.{◌≡◌, ◌<◌, ℕ, Some, slice_get, WorkerPart, EachItem, EachAttempt, IsRunCaused}
use Rattle.shr_audit_reasons.proofs.passes.are_parts_caused.Given as goal

abbrev pub invariant-loop-worker : goal.invariant-loop-worker
invariant-loop-worker l = (n : ℕ) (part : WorkerPart) → n < l.worker → slice_get l.parts n ≡ Some part → EachItem (λ w. EachAttempt w (λ a. IsRunCaused l.script l.report n w a)) part.walks.items
