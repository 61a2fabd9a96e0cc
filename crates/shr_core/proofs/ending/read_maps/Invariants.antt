-- SPDX-License-Identifier: GPL-2.0-only
use Rattle.shr_core.proofs.Common.{◌≡◌, ◌<◌, ◌^◌, All, slots_items, MapEnd, bits_in, nodes_below}
use Rattle.shr_core.proofs.ending.read_maps.Given as goal

abbrev pub invariant-loop-node : goal.invariant-loop-node
invariant-loop-node l = record {
  added : l.maps.items ≡ nodes_below l.units l.sizes.groups l.node (bits_in l.sizes (slots_items l.ended.words));
  narrow : All (λ (m : MapEnd). m.bits < 2 ^ 64) l.maps.items;
}
