-- SPDX-License-Identifier: GPL-2.0-only
use Rattle.shr_audit_reasons.proofs.SpentCommon.{◌≡◌, ◌<◌, ℕ, Some, slice_get, IsRunCaused}
use Rattle.shr_base.specs.Walks.{Attempt}
use Rattle.shr_audit_reasons.proofs.passes.are_runs_caused.Given as goal

abbrev pub invariant-loop-attempt : goal.invariant-loop-attempt
invariant-loop-attempt l = (n : ℕ) (x : Attempt) → n < l.attempt-index → slice_get l.attempt-items n ≡ Some x → IsRunCaused l.script l.report l.worker l.walk x
