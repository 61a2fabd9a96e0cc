-- SPDX-License-Identifier: GPL-2.0-only
-- The places of words of bits, one behind another.
use Rattle.std.specs.Prelude.{◌≡◌, ℕ, ◌-◌, List, ◌++◌, flat_map, map}
use Rattle.std.specs.List.{range_with_len}
use Rattle.shr_base.specs.declared.ends.MapEnd.{MapEnd}

-- a node, a group and a unit
abbrev pub Where : Type 0
Where = ℕ × ℕ × ℕ

-- the word of a unit, of a group on a node
abbrev pub at_unit : ℕ → ℕ → ℕ → Where
at_unit node group unit = (node, group, unit)

-- where words of bits stand
abbrev pub wheres : List MapEnd → List Where
wheres maps = map (λ (m : MapEnd). (m.node, m.group, m.unit)) maps

-- those of a node and group
abbrev pub unit_places : ℕ → ℕ → ℕ → List Where
unit_places node group units = map (λ unit. (node, group, unit)) (range_with_len 0 units)

-- those of a node
abbrev pub group_places : ℕ → ℕ → ℕ → List Where
group_places node groups units = flat_map (λ group. unit_places node group units) (range_with_len 1 (groups - 1))

-- these are not the first of those
abbrev pub IsNotStripped : List Where → List Where → Type 0
IsNotStripped places all = (tail : List Where) → all ≡ places ++ tail → ⊥
