-- SPDX-License-Identifier: GPL-2.0-only
-- When a report is well formed: only then does its text determine it.
use Rattle.std.specs.Prelude.{◌≡◌, ◌≢◌, ◌⊎◌, ℕ, ◌-◌, ◌==◌, ◌<◌, ◌≤◌, ◌^◌, if◌then◌else◌, true, List, [], ◌∷◌, ◌++◌, length, map, flat_map, slice_get, Some, Contains}
use Rattle.std.specs.List.{AllByRecursion, AllAdjacentBelow, range_with_len}
use Rattle.shr_model.specs.Paths.{is_path}
use Rattle.shr_model.specs.Words.{is_key, is_value, is_name}
use Rattle.shr_model.specs.Bits.{units_of}
use Rattle.shr_model.specs.Places.{unit_of}
use Rattle.shr_base.specs.declared.places.Place.{Place}
use Rattle.shr_base.specs.declared.places.Serial.{Serial}
use Rattle.shr_base.specs.declared.objects.Object.{Object}
use Rattle.shr_base.specs.declared.journals.Entry.{Entry}
use Rattle.shr_base.specs.declared.journals.Entry.TheVariants.{Add, Look, Drop, Pin}
use Rattle.shr_base.specs.declared.journals.PoolEntry.{PoolEntry}
use Rattle.shr_base.specs.declared.journals.PoolEntry.TheVariants.{Registered, Unregistered, Idle}
use Rattle.shr_base.specs.declared.journals.TreeEntry.{TreeEntry}
use Rattle.shr_base.specs.declared.journals.TreeEntry.TheVariants.{Begin, Done, Made}
use Rattle.shr_base.specs.declared.journals.UseStep.{UseStep}
use Rattle.shr_base.specs.declared.replies.Answered.{Answered}
use Rattle.shr_base.specs.declared.replies.Reply.{Reply}
use Rattle.shr_base.specs.declared.replies.Reply.TheVariants as reply
use Rattle.shr_base.specs.Walks.{WalkRecord}
use Rattle.shr_base.specs.declared.walks.Carry.{Carry}
use Rattle.shr_base.specs.declared.walks.PlainWalk.{PlainWalk}
use Rattle.shr_base.specs.declared.walks.Isolation.{Isolation}
use Rattle.shr_base.specs.declared.ends.PlaceAmount.{PlaceAmount}
use Rattle.shr_base.specs.declared.ends.PlaceEnd.{PlaceEnd}
use Rattle.shr_base.specs.declared.ends.MapEnd.{MapEnd}
use Rattle.shr_base.specs.declared.ends.UnitsEnd.{UnitsEnd}
use Rattle.shr_base.specs.declared.ends.WorkerPart.{WorkerPart}
use Rattle.shr_laws.specs.declared.report.Report.{Report}

-- each number is above the one before it
abbrev pub AreNumbersRising : List ℕ → Type 0
AreNumbersRising ns = AllAdjacentBelow (λ n m. n < m) ns (length ns)

-- each number is at least the one before it
abbrev pub AreNotFalling : List ℕ → Type 0
AreNotFalling ns = AllAdjacentBelow (λ n m. n ≤ m) ns (length ns)

-- the first two numbers stand before the other two: the first is below, or is the same and the
-- second is below
abbrev pub IsBefore : ℕ → ℕ → ℕ → ℕ → Type 0
IsBefore a b c d = (a < c) ⊎ ((a ≡ c) × (b < d))

-- a place stands before another: by id, then by node, then by group
abbrev pub IsPlaceBefore : Place → Place → Type 0
IsPlaceBefore p q = (p.id < q.id) ⊎ ((p.id ≡ q.id) × IsBefore p.node p.group q.node q.group)

-- a place stands before another, or is the same
abbrev pub IsPlaceUpTo : Place → Place → Type 0
IsPlaceUpTo p q = IsPlaceBefore p q ⊎ (p ≡ q)

-- the key, and the value, of an entry are words
abbrev pub HasWords : Entry → Type 0
HasWords (Add by birth added key value) = (is_key key ≡ true) × (is_value value ≡ true)
HasWords (Look by birth key hit) = is_key key ≡ true
HasWords (Drop by birth key kind) = is_key key ≡ true
HasWords (Pin by birth key pinned hit) = is_key key ≡ true
HasWords e = Unit {0}

-- the value that a reply lends is a word
abbrev pub LendsWord : Reply → Type 0
LendsWord (reply.Hit at value) = is_value value ≡ true
LendsWord r = Unit {0}

-- the key and the value of an object are words
pub record IsSpelled (o : Object) : Type 0 where
  pub key : is_key o.key ≡ true
  pub value : is_value o.value ≡ true

-- the numbers of a place have the ranges of their types
pub record IsNumbered (place : Place) : Type 0 where
  pub id : place.id < 2 ^ 16
  pub node : place.node < 2 ^ 8
  pub group : place.group < 2 ^ 16

-- a list that is printed has an entry, and its words are words
pub record IsPlaceWell (end : PlaceEnd) : Type 0 where
  pub numbers : IsNumbered end.place
  pub entered : 0 < length end.entries.items
  pub entries : AllByRecursion HasWords end.entries.items
  pub items : AllByRecursion IsSpelled end.items.items

-- a number of 64 bits
abbrev pub IsBitWord : ℕ → Type 0
IsBitWord bits = bits < 2 ^ 64

-- A walk of the root has no map. Every other has maps of rising units, each a word of bits, and
-- attempts in the order of these units, each at an id of a loaded unit.
pub record IsWalkWell (w : WalkRecord) : Type 0 where
  pub root : w.group ≡ 0 → w.maps.items ≡ []
  pub words : AllByRecursion (λ m. IsBitWord m.bits) w.maps.items
  pub units : AreNumbersRising (map (λ m. m.unit) w.maps.items)
  pub attempts : w.group ≢ 0 → AreNotFalling (map (λ a. unit_of a.id) w.attempts.items)
  pub loaded : w.group ≢ 0 → AllByRecursion (λ a. Contains (map (λ m. m.unit) w.maps.items) (unit_of a.id)) w.attempts.items

-- a carry of the same command is of a later id, or of the same id and a later node
abbrev pub IsCarryBefore : Carry → Carry → Type 0
IsCarryBefore c d = c.by.command ≡ d.by.command → IsBefore c.place.id c.place.node d.place.id d.place.node

-- the units whose bit words a report prints: in version 1 the first alone
abbrev pub map_units : Report → List ℕ
map_units r = if r.version == 1 then 0 ∷ [] else units_of r.ids

-- the node, the group and the unit of each bit word, in order: on each node all groups but the root
abbrev pub bit_places : ℕ → ℕ → List ℕ → List (ℕ × ℕ × ℕ)
bit_places nodes groups units = flat_map (λ node. flat_map (λ group. map (λ unit. (node, group, unit)) units) (range_with_len 1 (groups - 1))) (range_with_len 0 nodes)

-- a charge is before another
abbrev pub IsUseBefore : UseStep → UseStep → Type 0
IsUseBefore u v = IsBefore u.group u.operation v.group v.operation

-- these stand in the order of a worker's commands, and each names one of so many that are answered
pub record AreOfCommands (X : Type 0) (serial : X → Serial) (worker answers : ℕ) (xs : List X) : Type 0 where
  pub by : AllByRecursion (λ x. ((serial x).worker ≡ worker) × ((serial x).command < answers)) xs
  pub order : AreNotFalling (map (λ x. (serial x).command) xs)

-- the walks, the carries, the walks of the pools and the isolations of a worker stand in the order of
-- its commands, each names an answered one, and the carries of one command stand by id and node
pub record IsPartWell (worker : ℕ) (part : WorkerPart) : Type 0 where
  pub answers : AllByRecursion (λ (a : Answered). LendsWord a.reply) part.answers.items
  pub walks : AllByRecursion IsWalkWell part.walks.items
  pub walkers : AllByRecursion (λ (w : WalkRecord). (w.by.worker ≡ worker) × (w.by.command < length part.answers.items)) part.walks.items
  pub walk_order : AreNotFalling (map (λ (w : WalkRecord). w.by.command) part.walks.items)
  pub carriers : AllByRecursion (λ (c : Carry). (c.by.worker ≡ worker) × (c.by.command < length part.answers.items)) part.carries.items
  pub carry_order : AreNotFalling (map (λ (c : Carry). c.by.command) part.carries.items)
  pub carry_places : AllAdjacentBelow IsCarryBefore part.carries.items (length part.carries.items)
  pub plain : AreOfCommands PlainWalk (λ w. w.by) worker (length part.answers.items) part.plain.items
  pub isolations : AreOfCommands Isolation (λ i. i.by) worker (length part.answers.items) part.isolations.items

-- the numbers of an entry of the journals of registrations, and of the tree, have the ranges of their types
abbrev pub IsPoolNumbered : PoolEntry → Type 0
IsPoolNumbered (Registered decl id from) = (decl < 2 ^ 8) × (id < 2 ^ 16) × (from < 2 ^ 32)
IsPoolNumbered (Unregistered decl id to) = (decl < 2 ^ 8) × (id < 2 ^ 16) × (to < 2 ^ 32)
IsPoolNumbered (Idle id) = id < 2 ^ 16

-- the same for the second
abbrev pub IsTreeNumbered : TreeEntry → Type 0
IsTreeNumbered (Begin group) = group < 2 ^ 16
IsTreeNumbered (Done group) = group < 2 ^ 16
IsTreeNumbered (Made group) = group < 2 ^ 16

-- a deferred word that is printed isn't 0, and its numbers have the ranges of their types
pub record IsAmountWell (d : PlaceAmount) : Type 0 where
  pub numbers : IsNumbered d.place
  pub some : d.amount ≢ 0
  pub amount : IsBitWord d.amount

-- the place of a pool on a node
abbrev pub units_place : UnitsEnd → Place
units_place u = record { id = u.pool; node = u.node; group = 0 }

-- a deferred word of a pool that is printed is of a pool on a node, which has no group
pub record IsPoolAmountWell (d : PlaceAmount) : Type 0 where
  pub amount : IsAmountWell d
  pub group : d.place.group ≡ 0

-- A report is well formed: its words are of their classes, its parts stand in their order, and none of its bit words and
-- numbers of lookups is missing. Sizes, registrations, the journal of the tree, places of lists, bit words, deferred words, numbers of
-- lookups and totals have the ranges of their types. Whether a place is one of the tables, and is printed once, is for the laws to say.
pub record IsWellFormed (r : Report) : Type 0 where
  pub version : (r.version ≡ 1) ⊎ (r.version ≡ 2)
  pub sizes : (r.nodes < 2 ^ 8) × (r.ids < 2 ^ 16)
  pub paths : AllByRecursion (λ (path : List ℕ). is_path path ≡ true) r.groups.items
  pub names : AllByRecursion (λ (name : List ℕ). is_name name ≡ true) r.caches.items
  pub pool : AllByRecursion IsPoolNumbered r.pool.items
  pub tree : AllByRecursion IsTreeNumbered r.tree.items
  -- the number of a part is that of a worker
  pub few_parts : length r.workers.items ≤ 2 ^ 16
  pub parts : (worker : ℕ) (part : WorkerPart) → slice_get r.workers.items worker ≡ Some part → IsPartWell worker part
  pub last : (before : List WorkerPart) (part : WorkerPart) → r.workers.items ≡ before ++ part ∷ [] → 0 < length part.answers.items
  pub places : AllByRecursion IsPlaceWell r.places.items
  -- lists stand by place
  pub place_order : AllAdjacentBelow (λ (d e : PlaceEnd). IsPlaceUpTo d.place e.place) r.places.items (length r.places.items)
  -- each node and group from 1 has its bit words, in order
  pub maps : AllByRecursion (λ (m : MapEnd). IsBitWord m.bits) r.maps.items
  pub map_places : map (λ (m : MapEnd). (m.node, m.group, m.unit)) r.maps.items ≡ bit_places r.nodes (length r.groups.items) (map_units r)
  -- deferred words stand by place, each once
  pub deferred : AllByRecursion IsAmountWell r.deferred.items
  pub deferred_order : AllAdjacentBelow (λ (d e : PlaceAmount). IsPlaceBefore d.place e.place) r.deferred.items (length r.deferred.items)
  pub use_order : AllAdjacentBelow IsUseBefore r.uses.items (length r.uses.items)
  -- each id has its number of lookups
  pub lookups : length r.lookups.items ≡ r.ids
  pub numbers : AllByRecursion (λ (n : ℕ). n < 2 ^ 32) r.lookups.items
  pub totals : IsBitWord r.added × IsBitWord r.freed × IsBitWord r.listed
  -- a pool's journal that is printed has an entry; they stand by pool and node, and so do the deferred words of pools, each once
  pub pools : AllByRecursion (λ (name : List ℕ). is_name name ≡ true) r.pools.items
  pub units : AllByRecursion (λ (u : UnitsEnd). 0 < length u.entries.items) r.units.items
  pub unit_order : AllAdjacentBelow (λ (u v : UnitsEnd). IsPlaceUpTo (units_place u) (units_place v)) r.units.items (length r.units.items)
  pub pool_deferred : AllByRecursion IsPoolAmountWell r.pool_deferred.items
  pub pool_order : AllAdjacentBelow (λ (d e : PlaceAmount). IsPlaceBefore d.place e.place) r.pool_deferred.items (length r.pool_deferred.items)
