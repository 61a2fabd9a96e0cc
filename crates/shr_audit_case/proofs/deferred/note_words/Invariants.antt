-- SPDX-License-Identifier: GPL-2.0-only
use Rattle.shr_audit_case.proofs.SumsCommon.{take, sum_at, GainsAtEach}
use Rattle.shr_audit_case.proofs.deferred.note_words.Given as goal

abbrev pub invariant-loop-word : goal.invariant-loop-word
invariant-loop-word l = GainsAtEach (λ p. 0) (λ p. sum_at p (take l.word-index l.words)) l.fn.moves.items l.moves.items
