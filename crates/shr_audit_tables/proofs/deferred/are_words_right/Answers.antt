-- SPDX-License-Identifier: GPL-2.0-only
use Rattle.shr_audit_tables.proofs.Words.{words_decided}
use Rattle.shr_audit_tables.proofs.deferred.are_words_right.Goals as goal

pub returns : goal.returns
returns c =
    words_decided c.args.parents.now c.args.report.now c.as_slice.result.now c.as_slice-2.result.now _ _ c.note_parts.new.moves.items _ c.requires.well c.requires.numbers c.parents_fit.ensures c.as_slice.ensures c.as_slice-2.ensures c.new-moves.ensures.items c.in_ok-note_words.ensures c.in_ok-note_parts.ensures c.in_ok-settled.ensures
