-- SPDX-License-Identifier: GPL-2.0-only
use Rattle.shr_audit_case.proofs.SumsCommon.{refl, arith, ap, sum_by_more, is_place, sum_at, amount_at}
use Rattle.shr_audit_case.proofs.Gaining.{gains_more, no_up}
use Rattle.shr_audit_case.proofs.deferred.note_words.Goals as goal

pub loop-word-preserved : goal.loop-word-preserved
loop-word-preserved c = gains_more _ _ _ _ (λ p. 0) _ _ _ _ c.loop-word.invariant c.in_ok-note.ensures (λ p. no_up (is_place p _)) (λ p. sum_by_more (amount_at p) c.args.words.now c.loop-word.word-index _ c.loop-word-test.true)
