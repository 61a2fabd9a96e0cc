-- SPDX-License-Identifier: GPL-2.0-only
use Rattle.shr_audit_lists.proofs.BitsCommon.{List, take, sym, subst, take_more, take_all, MapEnd, AreWords}
use Rattle.shr_audit_lists.proofs.words.words_of.Goals as goal

pub loop-map-preserved : goal.loop-map-preserved
loop-map-preserved c = let i = c.loop-map.map-index in let maps = c.args.maps.now in
    subst (λ (ms : List MapEnd). AreWords ms c.note_word.new.words) (sym (take_more maps i _ c.loop-map-test.true)) (c.in_ok-note_word.ensures (take i maps) c.loop-map.invariant)

pub returns : goal.returns
returns c = subst (λ (ms : List MapEnd). AreWords ms c.loop-map.words) (take_all c.loop-map.map-index c.args.maps.now c.loop-map-test.false) c.loop-map.invariant
