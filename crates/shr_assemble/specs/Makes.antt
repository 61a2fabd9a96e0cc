-- SPDX-License-Identifier: GPL-2.0-only
-- The report that is made of a script, of what its tables left and of what its workers noted.
use Rattle.std.specs.Prelude.{◌≡◌, ℕ, ◌-◌, ◌<◌, ◌≤◌, ◌⊎◌, List, [], ◌∷◌, length, map, flat_map, codes, slice_get, sum_by, Option, Some, None, IsPermutation}
use Rattle.shr_base.specs.declared.ends.PlaceEnd.{PlaceEnd}
use Rattle.shr_base.specs.declared.journals.UseStep.{UseStep}
use Rattle.shr_base.specs.declared.replies.Answered.{Answered}
use Rattle.shr_base.specs.declared.scripts.Script.{Script}
use Rattle.shr_base.specs.declared.walks.Carry.{Carry}
use Rattle.shr_base.specs.declared.walks.Isolation.{Isolation}
use Rattle.shr_base.specs.declared.walks.PlainWalk.{PlainWalk}
use Rattle.shr_base.specs.Walks.{WalkRecord}
use Rattle.shr_model.specs.Bag.{added_by_all}
use Rattle.shr_tables.specs.declared.ending.Ends.{Ends}
use Rattle.shr_laws.specs.declared.report.Report.{Report}
use Rattle.shr_laws.specs.Parts.{answers_of, walks_of, carries_of, isolations_of}
use Rattle.shr_laws.specs.UnitParts.{plain_of}
use Rattle.shr_assemble.specs.declared.logs.WorkerLog.{WorkerLog}

-- the answers, the walks and the carries of a worker, none past the last worker
abbrev pub log_answers : Option WorkerLog → List Answered
log_answers None = []
log_answers (Some log) = log.answers.items

-- its walks
abbrev pub log_walks : Option WorkerLog → List WalkRecord
log_walks None = []
log_walks (Some log) = log.walks.items

-- its carries
abbrev pub log_carries : Option WorkerLog → List Carry
log_carries None = []
log_carries (Some log) = log.carries.items

-- its walks of the pools
abbrev pub log_plain : Option WorkerLog → List PlainWalk
log_plain None = []
log_plain (Some log) = log.plain.items

-- its isolations
abbrev pub log_isolations : Option WorkerLog → List Isolation
log_isolations None = []
log_isolations (Some log) = log.isolations.items

-- how many objects the journals of these places added, and how many their lists hold
abbrev pub added_count : List PlaceEnd → ℕ
added_count ends = sum_by (λ (end : PlaceEnd). length (added_by_all end.entries.items)) ends

-- how many objects the lists of these places hold
abbrev pub listed_count : List PlaceEnd → ℕ
listed_count ends = sum_by (λ (end : PlaceEnd). length end.items.items) ends

-- an operation stands before another: of a lower group, or of the same group and with a lower number
abbrev pub StandsBefore : UseStep → UseStep → Type 0
StandsBefore o p = (o.group < p.group) ⊎ ((o.group ≡ p.group) × (o.operation ≤ p.operation))

-- the report holds what the tables left and what the workers noted, and counts it
pub record IsMadeOf (s : Script) (logs : List WorkerLog) (e : Ends) (r : Report) : Type 0 where
  pub version : r.version ≡ s.version
  pub nodes : r.nodes ≡ s.nodes
  pub ids : r.ids ≡ s.ids
  pub paths : r.groups.items ≡ codes "/" ∷ map (λ g. g.path) s.groups.items
  pub names : r.caches.items ≡ map (λ c. c.name) s.caches.items
  -- what the tables left
  pub pool : r.pool.items ≡ e.core.pool.items
  pub places : r.places.items ≡ e.core.places.items
  pub maps : r.maps.items ≡ e.core.maps.items
  pub lookups : r.lookups.items ≡ e.core.lookups.items
  pub tree : r.tree.items ≡ e.charge.tree.items
  pub deferred : r.deferred.items ≡ e.deferred.items
  -- the pools, and what their tables left
  pub pools : r.pools.items ≡ map (λ p. p.name) s.pools.items
  pub units : r.units.items ≡ e.pools.units.items
  pub pool_deferred : r.pool_deferred.items ≡ e.pools.pool_deferred.items
  -- what the workers noted, up to the last one that has an answer
  pub answers : (worker : ℕ) → answers_of r worker ≡ log_answers (slice_get logs worker)
  pub walks : (worker : ℕ) → walks_of r worker ≡ log_walks (slice_get logs worker)
  pub carries : (worker : ℕ) → carries_of r worker ≡ log_carries (slice_get logs worker)
  pub plain : (worker : ℕ) → plain_of r worker ≡ log_plain (slice_get logs worker)
  pub isolations : (worker : ℕ) → isolations_of r worker ≡ log_isolations (slice_get logs worker)
  -- their operations, by group and number
  pub uses : IsPermutation r.uses.items (flat_map (λ (log : WorkerLog). log.uses.items) logs)
  pub sorted : (i j : ℕ) (o p : UseStep) → i < j → slice_get r.uses.items i ≡ Some o → slice_get r.uses.items j ≡ Some p → StandsBefore o p
  -- the objects that were added are freed or listed
  pub added : r.added ≡ added_count r.places.items
  pub listed : r.listed ≡ listed_count r.places.items
  pub freed : r.freed ≡ r.added - r.listed
