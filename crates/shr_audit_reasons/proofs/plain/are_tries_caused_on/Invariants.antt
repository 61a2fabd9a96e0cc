-- SPDX-License-Identifier: GPL-2.0-only
use Rattle.shr_audit_reasons.proofs.SpentCommon.{◌≡◌, ◌<◌, ℕ, Some, slice_get, PlainTry, IsTryCaused}
use Rattle.shr_audit_reasons.proofs.plain.are_tries_caused_on.Given as goal

abbrev pub invariant-loop-pool : goal.invariant-loop-pool
invariant-loop-pool l = (n : ℕ) (x : PlainTry) → n < l.pool → slice_get l.tries n ≡ Some x → IsTryCaused l.script l.report l.node n x
