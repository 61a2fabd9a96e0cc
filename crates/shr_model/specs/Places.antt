-- SPDX-License-Identifier: GPL-2.0-only
-- Places, and their numbers in the tables.
use Rattle.std.specs.Prelude.{ℕ, ◌/◌, ◌%◌, Bool, ◌&&◌, ◌==◌}
use Rattle.shr_base.specs.declared.places.Place.{Place}

-- the unit of 64 ids that an id belongs to
abbrev pub unit_of : ℕ → ℕ
unit_of id = id / 64

-- the bit of an id in its unit
abbrev pub bit_of : ℕ → ℕ
bit_of id = id % 64

-- the place of another group at the same id and node
abbrev pub at_group : Place → ℕ → Place
at_group place group = record place { group = group }

-- the two are one place
abbrev pub is_place : Place → Place → Bool
is_place p q = (p.id == q.id) && (p.node == q.node) && (p.group == q.group)
