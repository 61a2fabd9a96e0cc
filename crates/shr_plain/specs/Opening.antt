-- SPDX-License-Identifier: GPL-2.0-only
-- What the tables are made of.
use Rattle.std.specs.Prelude.{◌≡◌, ℕ, ◌==◌, cond, List, map, length}
use Rattle.shr_base.specs.declared.scripts.PoolDecl.{PoolDecl}
use Rattle.shr_base.specs.declared.scripts.Script.{Script}
use Rattle.shr_seats.specs.declared.rows.Sizes.{Sizes}
use Rattle.shr_plain.specs.declared.settings.Setting.{Setting}
use Rattle.shr_plain.specs.declared.table.Pools.{Pools}

-- the setting of a declared pool
abbrev pub setting_by : PoolDecl → Setting
setting_by d = record { seeks = d.seeks; batch = d.batch; floor = d.floor; flat = d.flat }

-- the sizes of the tables for so many pools and nodes: where there is no pool they are made for one
abbrev pub sizes_for : ℕ → ℕ → Sizes
sizes_for pools nodes = record { ids = cond (pools == 0) 1 pools; nodes = nodes; groups = 1 }

-- the settings of a script's pools, and the sizes of their tables
abbrev pub settings_of : Script → List Setting
settings_of s = map setting_by s.pools.items

-- the sizes of a script's pools
abbrev pub pool_sizes : Script → Sizes
pool_sizes s = sizes_for (length s.pools.items) s.nodes

-- the tables were made with the pools and the nodes of the script
pub record ArePoolsOf (s : Script) (p : Pools) : Type 0 where
  pub settings : p.settings.items ≡ settings_of s
  pub sizes : p.sizes ≡ pool_sizes s
