-- SPDX-License-Identifier: GPL-2.0-only
use Rattle.shr_audit_case.proofs.SumsCommon.{sum_at, given_at, taken_at}
use Rattle.shr_audit_case.proofs.WordsLaw.{words_law, gained}
use Rattle.shr_audit_case.proofs.deferred.words_settle.Goals as goal

pub returns : goal.returns
returns c =
    words_law (λ p. sum_at p c.args.words.now) (λ p. given_at c.args.parents.now c.args.walks.now c.args.carries.now p) (λ p. taken_at c.args.walks.now c.args.carries.now p) c.note_carries.new.moves.items _ c.requires
    (gained _ _ _ _ _ _ _ _ _ c.new-moves.ensures.items c.in_ok-note_words.ensures c.in_ok-note_walks.ensures c.in_ok-note_carries.ensures) c.in_ok-settled.ensures
