-- SPDX-License-Identifier: GPL-2.0-only
use Rattle.shr_core.proofs.Common.{◌≡◌, ◌++◌, ◌<◌, ◌^◌, All, slots_items, MapEnd, bits_in, units_below}
use Rattle.shr_core.proofs.ending.add_units.Given as goal

abbrev pub invariant-loop-unit : goal.invariant-loop-unit
invariant-loop-unit l = record {
  added : l.maps.items ≡ l.initial.maps.items ++ units_below l.unit l.node l.group (bits_in l.sizes (slots_items l.ended.words));
  narrow : All (λ (m : MapEnd). m.bits < 2 ^ 64) l.initial.maps.items → All (λ (m : MapEnd). m.bits < 2 ^ 64) l.maps.items;
}
