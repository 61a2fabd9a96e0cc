-- SPDX-License-Identifier: GPL-2.0-only
use Rattle.shr_audit_reasons.proofs.SpentCommon.{◌≡◌, ◌<◌, ℕ, Some, slice_get, WorkerPart, PlainTry, EachItem, IsTryCaused}
use Rattle.shr_audit_reasons.proofs.plain.are_parts_caused.Given as goal

abbrev pub invariant-loop-part : goal.invariant-loop-part
invariant-loop-part l = (n : ℕ) (part : WorkerPart) → n < l.part-index → slice_get l.parts n ≡ Some part
    → EachItem (λ w. (pool : ℕ) (x : PlainTry) → slice_get w.tries.items pool ≡ Some x → IsTryCaused l.script l.report w.node pool x) part.plain.items
