-- SPDX-License-Identifier: GPL-2.0-only
use Rattle.shr_core.proofs.Common.{◌<◌, ◌^◌, ◌∙◌, subst, sym, All, slots_items, MapEnd, bits_in}
use Rattle.std.proofs.lemmas.List.Elements.{All-nil}
use Rattle.shr_core.proofs.Endings.{nodes_none, nodes_next}
use Rattle.shr_core.proofs.ending.read_maps.Goals as goal

pub loop-node-init : goal.loop-node-init
loop-node-init c = record {
  added = c.new-maps.ensures.items ∙ nodes_none c.args.units c.args.sizes.groups (bits_in c.args.sizes (slots_items c.args.ended.now.words));
  narrow = subst (All (λ (m : MapEnd). m.bits < 2 ^ 64)) (sym c.new-maps.ensures.items) (All-nil (λ (m : MapEnd). m.bits < 2 ^ 64));
}

pub loop-node-preserved : goal.loop-node-preserved
loop-node-preserved c = record {
  added = nodes_next c.args.units c.args.sizes.groups c.loop-node.node (bits_in c.args.sizes (slots_items c.args.ended.now.words)) c.loop-node.maps.items _ c.loop-node.invariant.added c.in_ok-add_groups.ensures.added;
  narrow = c.in_ok-add_groups.ensures.narrow c.loop-node.invariant.narrow;
}
