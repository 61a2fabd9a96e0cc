-- SPDX-License-Identifier: GPL-2.0-only
use Rattle.shr_audit_reasons.proofs.SpentCommon.{◌≡◌, ◌<◌, ℕ, Some, slice_get, PlainTry, PlainWalk, IsTryCaused}
use Rattle.shr_audit_reasons.proofs.plain.are_walks_caused.Given as goal

abbrev pub invariant-loop-walk : goal.invariant-loop-walk
invariant-loop-walk l = (n : ℕ) (w : PlainWalk) → n < l.walk-index → slice_get l.walks n ≡ Some w
    → (pool : ℕ) (x : PlainTry) → slice_get w.tries.items pool ≡ Some x → IsTryCaused l.script l.report w.node pool x
