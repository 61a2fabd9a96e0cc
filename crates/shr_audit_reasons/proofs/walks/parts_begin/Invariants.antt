-- SPDX-License-Identifier: GPL-2.0-only
use Rattle.shr_audit_reasons.proofs.Common.{◌≡◌, ◌<◌, ℕ, Some, slice_get, WorkerPart, EachItem, CitesBegin}
use Rattle.shr_audit_reasons.proofs.walks.parts_begin.Given as goal

abbrev pub invariant-loop-part : goal.invariant-loop-part
invariant-loop-part l = (n : ℕ) (x : WorkerPart) → n < l.part-index → slice_get l.parts n ≡ Some x → EachItem (λ w. CitesBegin l.report w) x.walks.items
