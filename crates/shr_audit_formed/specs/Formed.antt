-- SPDX-License-Identifier: GPL-2.0-only
-- The parts of a well formed report, in the form in which they are tested.
use Rattle.std.specs.Prelude.{◌≡◌, ◌⊎◌, ℕ, ◌+◌, ◌-◌, ◌/◌, ◌<◌, ◌≤◌, ◌^◌, ◌==◌, if◌then◌else◌, true, List, length, slice_get, Some}
use Rattle.std.specs.List.{range_with_len}
use Rattle.shr_model.specs.Paths.{is_path}
use Rattle.shr_model.specs.Words.{is_name}
use Rattle.shr_base.specs.Walks.{WalkRecord}
use Rattle.shr_base.specs.declared.walks.Carry.{Carry}
use Rattle.shr_base.specs.declared.walks.PlainWalk.{PlainWalk}
use Rattle.shr_base.specs.declared.walks.Isolation.{Isolation}
use Rattle.shr_base.specs.declared.ends.WorkerPart.{WorkerPart}
use Rattle.shr_laws.specs.declared.report.Report.{Report}
use Rattle.shr_laws.specs.WellFormed.{LendsWord, IsCarryBefore, IsPoolNumbered, IsTreeNumbered, IsBitWord, IsAmountWell, IsPoolAmountWell, IsUseBefore, IsPlaceBefore, IsPlaceUpTo, units_place, bit_places}
use Rattle.shr_audit_formed.specs.Each.{EachItem, Adjacent, IsWorkerCommand, IsWalkFormed, IsListFormed}
use Rattle.shr_audit_formed.specs.Stripped.{wheres}

-- the walks of a worker
abbrev pub AreWalksFormed : ℕ → ℕ → List WalkRecord → Type 0
AreWalksFormed worker answers walks = EachItem IsWalkFormed walks × (EachItem (λ x. IsWorkerCommand worker answers x.by) walks × Adjacent (λ x y. x.by.command ≤ y.by.command) walks)

-- its carries
abbrev pub AreCarriesFormed : ℕ → ℕ → List Carry → Type 0
AreCarriesFormed worker answers carries = EachItem (λ x. IsWorkerCommand worker answers x.by) carries × (Adjacent (λ x y. x.by.command ≤ y.by.command) carries × Adjacent IsCarryBefore carries)

-- its walks of the pools, and its isolations
abbrev pub AreOthersFormed : ℕ → ℕ → List PlainWalk → List Isolation → Type 0
AreOthersFormed worker answers plains isolations = EachItem (λ x. IsWorkerCommand worker answers x.by) plains × (Adjacent (λ x y. x.by.command ≤ y.by.command) plains
    × (EachItem (λ x. IsWorkerCommand worker answers x.by) isolations × Adjacent (λ x y. x.by.command ≤ y.by.command) isolations))

-- the part of a worker
abbrev pub IsPartFormed : ℕ → WorkerPart → Type 0
IsPartFormed worker part = EachItem (λ a. LendsWord a.reply) part.answers.items × (AreWalksFormed worker (length part.answers.items) part.walks.items
    × (AreCarriesFormed worker (length part.answers.items) part.carries.items × AreOthersFormed worker (length part.answers.items) part.plain.items part.isolations.items))

-- those of all workers
abbrev pub ArePartsFormed : List WorkerPart → Type 0
ArePartsFormed parts = (worker : ℕ) (part : WorkerPart) → slice_get parts worker ≡ Some part → IsPartFormed worker part

-- the last has an answer
abbrev pub IsLastFormed : List WorkerPart → Type 0
IsLastFormed parts = (part : WorkerPart) → slice_get parts (length parts - 1) ≡ Some part → 0 < length part.answers.items

-- what stands before the workers, and that there are no more workers than have numbers
abbrev pub AreHeadsFormed : Report → Type 0
AreHeadsFormed r = (((r.version ≡ 1) ⊎ (r.version ≡ 2)) × (length r.workers.items ≤ 2 ^ 16)) × (EachItem (λ p. is_path p ≡ true) r.groups.items × (EachItem (λ w. is_name w ≡ true) r.caches.items × (EachItem (λ w. is_name w ≡ true) r.pools.items
    × (EachItem IsPoolNumbered r.pool.items × EachItem IsTreeNumbered r.tree.items))))

-- the lists, and the pools on nodes
abbrev pub AreListsFormed : Report → Type 0
AreListsFormed r = EachItem IsListFormed r.places.items × (Adjacent (λ x y. IsPlaceUpTo x.place y.place) r.places.items
    × (EachItem (λ u. 0 < length u.entries.items) r.units.items × Adjacent (λ u v. IsPlaceUpTo (units_place u) (units_place v)) r.units.items))

-- how many units of words of bits are printed
abbrev pub units_printed : Report → ℕ
units_printed r = if r.version == 1 then 1 else (r.ids + 63) / 64

-- the words of bits, and the numbers of lookups
abbrev pub AreMapsPrinted : Report → Type 0
AreMapsPrinted r = EachItem (λ m. IsBitWord m.bits) r.maps.items × (EachItem (λ n. n < 2 ^ 32) r.lookups.items × ((length r.lookups.items ≡ r.ids)
    × (wheres r.maps.items ≡ bit_places r.nodes (length r.groups.items) (range_with_len 0 (units_printed r)))))

-- the other tables
abbrev pub AreTablesFormed : Report → Type 0
AreTablesFormed r = EachItem IsAmountWell r.deferred.items × (Adjacent (λ d e. IsPlaceBefore d.place e.place) r.deferred.items × (Adjacent IsUseBefore r.uses.items
    × (EachItem IsPoolAmountWell r.pool_deferred.items × Adjacent (λ d e. IsPlaceBefore d.place e.place) r.pool_deferred.items)))
