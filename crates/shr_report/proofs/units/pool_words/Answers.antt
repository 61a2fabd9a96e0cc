-- SPDX-License-Identifier: GPL-2.0-only
use Rattle.shr_report.proofs.Common.{get_or, take, flat_map, prints_both, PlaceAmount, pool_deferred_line}
use Rattle.shr_report.proofs.Joined.{lines_more}
use Rattle.shr_report.proofs.units.pool_words.Goals as goal

pub loop-word-preserved : goal.loop-word-preserved
loop-word-preserved g c =
    let none : PlaceAmount = record { place = record { id = 0; node = 0; group = 0 }; amount = 0 } in
    let i = c.loop-word.word-index in
    let words = c.args.words.now in
    rw (lines_more pool_deferred_line words i none c.loop-word-test.true)
    (prints_both _ _ c.args.out.now c.loop-word.out c.pool_word.new.out (flat_map pool_deferred_line (take i words)) (pool_deferred_line (get_or words i none)) c.loop-word.invariant c.pool_word.ensures)
