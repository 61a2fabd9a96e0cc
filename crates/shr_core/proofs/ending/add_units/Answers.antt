-- SPDX-License-Identifier: GPL-2.0-only
use Rattle.shr_core.proofs.Common.{ℕ, ◌<◌, ◌^◌, subst, sym, All, slots_items, MapEnd, bits_in}
use Rattle.std.proofs.lemmas.List.Elements.{All-push}
use Rattle.shr_core.proofs.Endings.{bits_word, units_none, units_next}
use Rattle.shr_core.proofs.ending.add_units.Goals as goal

pub loop-unit-init : goal.loop-unit-init
loop-unit-init c = record { added = units_none c.args.node c.args.group (bits_in c.args.sizes (slots_items c.args.ended.now.words)) c.args.maps.now.items; narrow = λ all. all }

pub loop-unit-preserved : goal.loop-unit-preserved
loop-unit-preserved c = let ws = slots_items c.args.ended.now.words in let u : ℕ = c.loop-unit.unit in record {
  added = units_next u c.args.node c.args.group (bits_in c.args.sizes ws) c.args.maps.now.items c.loop-unit.maps.items _ c.word.result c.loop-unit.invariant.added (bits_word c.args.sizes c.args.node c.args.group u ws _ c.row.result c.word.result c.requires.place.0 c.requires.place.1 c.requires.few.0 c.requires.few.1 c.row.ensures.row c.bit_word.ensures c.word.ensures) c.in_ok-add.ensures.added;
  narrow = λ all. subst (All (λ (m : MapEnd). m.bits < 2 ^ 64)) (sym c.in_ok-add.ensures.added) (All-push (λ (m : MapEnd). m.bits < 2 ^ 64) c.loop-unit.maps.items _ (c.loop-unit.invariant.narrow all) c.word.type_inv);
}
