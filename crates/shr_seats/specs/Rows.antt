-- SPDX-License-Identifier: GPL-2.0-only
-- Which places a table has, and in which row each of them stands.
use Rattle.std.specs.Prelude.{ℕ, ◌+◌, ◌*◌, ◌/◌, ◌%◌, ◌<◌}
use Rattle.shr_base.specs.declared.places.Place.{Place}
use Rattle.shr_seats.specs.declared.rows.Sizes.{Sizes}

-- a table of these sizes has this place
pub record IsPlaceOf (z : Sizes) (p : Place) : Type 0 where
  pub id : p.id < z.ids
  pub node : p.node < z.nodes
  pub group : p.group < z.groups

-- how many rows there are: one for each place
abbrev pub row_count : Sizes → ℕ
row_count z = z.ids * z.nodes * z.groups

-- the row of a place: by id, node and group
abbrev pub row_of : Sizes → Place → ℕ
row_of z p = (p.id * z.nodes + p.node) * z.groups + p.group

-- the place of a row
abbrev pub place_of_row : Sizes → ℕ → Place
place_of_row z row = record { id = row / z.groups / z.nodes; node = row / z.groups % z.nodes; group = row % z.groups }
