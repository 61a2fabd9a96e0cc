-- SPDX-License-Identifier: GPL-2.0-only
-- Which pools there are, and where their units are.
use Rattle.std.specs.Prelude.{ℕ, ◌<◌, ◌≤◌, false, cond, List, length, slice_index_or}
use Rattle.shr_base.specs.declared.places.Place.{Place}
use Rattle.shr_seats.specs.Rows.{row_of}
use Rattle.shr_seats.specs.declared.rows.Sizes.{Sizes}
use Rattle.shr_plain.specs.declared.settings.Setting.{Setting}

-- the numbers of a setting are such as a script may have
pub record IsSetting (s : Setting) : Type 0 where
  pub seeks : s.seeks ≤ 1000
  pub batch : s.batch ≤ 20000
  pub floor : s.floor ≤ 20000

-- past the last pool there is none
abbrev pub no_setting : Setting
no_setting = record { seeks = 0; batch = 0; floor = 0; flat = false }

-- the setting of a pool
abbrev pub setting_of : List Setting → ℕ → Setting
setting_of settings pool = slice_index_or settings pool no_setting

-- the node where the units are for which a node stands
abbrev pub home_node : Setting → ℕ → ℕ
home_node s node = cond s.flat 0 node

-- the place of a pool's units for a node
abbrev pub home_place : List Setting → ℕ → ℕ → Place
home_place settings pool node = record { id = pool; node = home_node (setting_of settings pool) node; group = 0 }

-- the row of that place
abbrev pub room_of : List Setting → Sizes → ℕ → ℕ → ℕ
room_of settings z pool node = row_of z (home_place settings pool node)

-- there is this pool, and this node
pub record IsPoolOf (settings : List Setting) (z : Sizes) (k n : ℕ) : Type 0 where
  pub pool : k < length settings
  pub node : n < z.nodes
