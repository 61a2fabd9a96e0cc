-- SPDX-License-Identifier: GPL-2.0-only
use Rattle.shr_core.proofs.Common.{◌≡◌, ◌++◌, ◌<◌, ◌^◌, All, slots_items, MapEnd, bits_in, groups_below}
use Rattle.shr_core.proofs.ending.add_groups.Given as goal

abbrev pub invariant-loop-group : goal.invariant-loop-group
invariant-loop-group l = record {
  added : l.maps.items ≡ l.initial.maps.items ++ groups_below l.units l.group l.node (bits_in l.sizes (slots_items l.ended.words));
  narrow : All (λ (m : MapEnd). m.bits < 2 ^ 64) l.initial.maps.items → All (λ (m : MapEnd). m.bits < 2 ^ 64) l.maps.items;
}
