-- SPDX-License-Identifier: GPL-2.0-only
-- When two reports are the same: in their numbers, and in the items of each list at every depth.
use Rattle.std.specs.Prelude.{◌≡◌, ℕ, List}
use Rattle.std.specs.List.{AllZip}
use Rattle.shr_base.specs.Walks.{WalkRecord}
use Rattle.shr_base.specs.declared.walks.PlainWalk.{PlainWalk}
use Rattle.shr_base.specs.declared.ends.PlaceEnd.{PlaceEnd}
use Rattle.shr_base.specs.declared.ends.UnitsEnd.{UnitsEnd}
use Rattle.shr_base.specs.declared.ends.WorkerPart.{WorkerPart}
use Rattle.shr_laws.specs.declared.report.Report.{Report}
use Rattle.shr_laws.specs.Text.{text}
use Rattle.shr_laws.specs.WellFormed.{IsWellFormed}

-- the two are one walk
pub record IsSameWalk (v w : WalkRecord) : Type 0 where
  pub by : v.by ≡ w.by
  pub group : v.group ≡ w.group
  pub node : v.node ≡ w.node
  pub priority : v.priority ≡ w.priority
  pub nofs : v.nofs ≡ w.nofs
  pub maps : v.maps.items ≡ w.maps.items
  pub attempts : v.attempts.items ≡ w.attempts.items
  pub answer : v.answer ≡ w.answer

-- the two are one walk of the pools
pub record IsSamePlain (v w : PlainWalk) : Type 0 where
  pub by : v.by ≡ w.by
  pub node : v.node ≡ w.node
  pub priority : v.priority ≡ w.priority
  pub tries : v.tries.items ≡ w.tries.items
  pub answer : v.answer ≡ w.answer

-- the two are what one worker did
pub record IsSamePart (p q : WorkerPart) : Type 0 where
  pub answers : p.answers.items ≡ q.answers.items
  pub walks : AllZip IsSameWalk p.walks.items q.walks.items
  pub carries : p.carries.items ≡ q.carries.items
  pub plain : AllZip IsSamePlain p.plain.items q.plain.items
  pub isolations : p.isolations.items ≡ q.isolations.items

-- the two are one list
pub record IsSameEnd (e f : PlaceEnd) : Type 0 where
  pub place : e.place ≡ f.place
  pub entries : e.entries.items ≡ f.entries.items
  pub items : e.items.items ≡ f.items.items

-- the two are one journal of a pool
pub record IsSameUnits (u v : UnitsEnd) : Type 0 where
  pub pool : u.pool ≡ v.pool
  pub node : u.node ≡ v.node
  pub entries : u.entries.items ≡ v.entries.items
  pub free : u.free ≡ v.free

-- the two are one report
pub record IsOneReport (r s : Report) : Type 0 where
  pub version : r.version ≡ s.version
  pub nodes : r.nodes ≡ s.nodes
  pub ids : r.ids ≡ s.ids
  pub groups : r.groups.items ≡ s.groups.items
  pub caches : r.caches.items ≡ s.caches.items
  pub pools : r.pools.items ≡ s.pools.items
  pub pool : r.pool.items ≡ s.pool.items
  pub tree : r.tree.items ≡ s.tree.items
  pub workers : AllZip IsSamePart r.workers.items s.workers.items
  pub places : AllZip IsSameEnd r.places.items s.places.items
  pub units : AllZip IsSameUnits r.units.items s.units.items
  pub maps : r.maps.items ≡ s.maps.items
  pub deferred : r.deferred.items ≡ s.deferred.items
  pub pool_deferred : r.pool_deferred.items ≡ s.pool_deferred.items
  pub uses : r.uses.items ≡ s.uses.items
  pub lookups : r.lookups.items ≡ s.lookups.items
  pub added : r.added ≡ s.added
  pub freed : r.freed ≡ s.freed
  pub listed : r.listed ≡ s.listed

-- no two well formed reports have one text
abbrev pub HasOneText : Type 0
HasOneText = (r s : Report) → IsWellFormed r → IsWellFormed s → text r ≡ text s → IsOneReport r s

-- these bytes determine the report: no other well formed one has them as its text
abbrev pub Determines : List ℕ → Report → Type 0
Determines bytes r = IsWellFormed r → (s : Report) → IsWellFormed s → text s ≡ bytes → IsOneReport r s
