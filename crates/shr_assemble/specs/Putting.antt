-- SPDX-License-Identifier: GPL-2.0-only
-- The report of the ends of tables and of what the workers noted.
use Rattle.std.specs.Prelude.{◌≡◌, ◌-◌, ◌<◌, ◌^◌, List, ◌∷◌, map, codes}
use Rattle.shr_walk.specs.declared.seats.Shared.{Shared}
use Rattle.shr_tables.specs.declared.ending.Ends.{Ends}
use Rattle.shr_laws.specs.declared.report.Report.{Report}
use Rattle.shr_assemble.specs.declared.logs.WorkerLog.{WorkerLog}
use Rattle.shr_assemble.specs.declared.noting.Noted.{Noted}
use Rattle.shr_assemble.specs.Ends.{AreEndsOf}
use Rattle.shr_assemble.specs.Makes.{added_count, listed_count}

-- the tables of some opening were ended so, after these logs of their workers
pub record AreEnds (logs : List WorkerLog) (e : Ends) : Type 0 where
  pub shared : Shared
  pub ends : AreEndsOf shared logs e

-- the report has the script's sizes and names, what the tables left, and what was noted
pub record IsPutTogether (e : Ends) (n : Noted) (r : Report) : Type 0 where
  pub version : r.version ≡ e.script.version
  pub nodes : r.nodes ≡ e.script.nodes
  pub ids : r.ids ≡ e.script.ids
  pub paths : r.groups.items ≡ codes "/" ∷ map (λ g. g.path) e.script.groups.items
  pub names : r.caches.items ≡ map (λ c. c.name) e.script.caches.items
  pub pool : r.pool.items ≡ e.core.pool.items
  pub places : r.places.items ≡ e.core.places.items
  pub maps : r.maps.items ≡ e.core.maps.items
  pub lookups : r.lookups.items ≡ e.core.lookups.items
  pub tree : r.tree.items ≡ e.charge.tree.items
  pub deferred : r.deferred.items ≡ e.deferred.items
  -- the pools, and what their tables left
  pub pools : r.pools.items ≡ map (λ p. p.name) e.script.pools.items
  pub units : r.units.items ≡ e.pools.units.items
  pub pool_deferred : r.pool_deferred.items ≡ e.pools.pool_deferred.items
  pub parts : r.workers.items ≡ n.parts.items
  pub uses : r.uses.items ≡ n.uses.items
  -- each object that was added is freed or listed
  pub added : r.added ≡ added_count r.places.items
  pub listed : r.listed ≡ listed_count r.places.items
  pub freed : r.freed ≡ r.added - r.listed
  -- numbers of 64 bits
  pub totals : (r.added < 2 ^ 64) × (r.listed < 2 ^ 64)
