-- SPDX-License-Identifier: GPL-2.0-only
use Rattle.shr_audit_formed.proofs.Common.{◌≡◌, ◌<◌, ℕ, Some, slice_get, Answered, LendsWord}
use Rattle.shr_audit_formed.proofs.parts.lend_words.Given as goal

abbrev pub invariant-loop-answer : goal.invariant-loop-answer
invariant-loop-answer l = (n : ℕ) (x : Answered) → n < l.answer-index → slice_get l.answers n ≡ Some x → LendsWord x.reply
