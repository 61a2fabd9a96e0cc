-- SPDX-License-Identifier: GPL-2.0-only
use Rattle.shr_audit_tables.proofs.LookupsCommon.{◌≡◌, ◌<◌, ℕ, Some, slice_get, IsMetRight}
use Rattle.shr_base.specs.Walks.{Attempt}
use Rattle.shr_audit_tables.proofs.met.are_attempts_right.Given as goal

abbrev pub invariant-loop-attempt : goal.invariant-loop-attempt
invariant-loop-attempt l = (n : ℕ) (x : Attempt) → n < l.attempt-index → slice_get l.attempt-items n ≡ Some x → IsMetRight l.report x
