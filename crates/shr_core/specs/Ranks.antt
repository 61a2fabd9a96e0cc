-- SPDX-License-Identifier: GPL-2.0-only
-- What the numbers of events say of their order.
use Rattle.std.specs.Prelude.{◌≡◌, ℕ, ◌+◌, length}
use Rattle.shr_base.specs.declared.journals.PoolEntry.{PoolEntry}
use Rattle.shr_base.specs.declared.journals.PoolEntry.TheVariants.{Registered, Unregistered, Idle}
use Rattle.shr_core.specs.Parts.{Event, counted, made, looked, loaded, turned, put_back, raised, cleared, mapped}
use Rattle.shr_core.specs.Order.{Moment}

-- what only grows: the entries of a place, the lookups of an id, the entries of the pool
pub data Measure : Type 0 where
  entries : ℕ → Measure
  lookups : ℕ → Measure
  turns : Measure

-- how many there are at a moment
abbrev pub value : Measure → Moment → ℕ
value (entries k) t = length (t.now k)
value (lookups i) t = t.next i
value turns t = length t.pool

-- a registration tells the number of its id's next lookup
abbrev pub EntryTells : ℕ → PoolEntry → ℕ → ℕ → Type 0
EntryTells i (Registered decl id from) low high = (id ≡ i) × (low ≡ from) × (high ≡ from)
EntryTells i (Unregistered decl id to) low high = (id ≡ i) × (low ≡ to) × (high ≡ to)
EntryTells i (Idle id) low high = ⊥

-- An event tells that there were `low` before it, and that there are `high` after it. One event
-- whose low is below another's high stands before it.
abbrev pub EventTells : Measure → Event → ℕ → ℕ → Type 0
EventTells (entries k) (counted x) low high = (x.place ≡ k) × (low ≡ x.version) × (high ≡ x.version)
EventTells (entries k) (made x) low high = (x.place ≡ k) × (low ≡ x.number) × (high ≡ x.number + 1)
EventTells (entries k) (looked x) low high = ⊥
EventTells (entries k) (loaded x) low high = ⊥
EventTells (entries k) (turned x) low high = ⊥
EventTells (entries k) (put_back j) low high = ⊥
EventTells (entries k) (raised j) low high = ⊥
EventTells (entries k) (cleared j) low high = ⊥
EventTells (entries k) (mapped x) low high = ⊥
EventTells (lookups i) (counted x) low high = ⊥
EventTells (lookups i) (made x) low high = ⊥
EventTells (lookups i) (looked x) low high = (x.id ≡ i) × (low ≡ x.number) × (high ≡ x.number + 1)
EventTells (lookups i) (loaded x) low high = (x.id ≡ i) × (low ≡ x.word.lookups) × (high ≡ x.word.lookups)
EventTells (lookups i) (turned x) low high = EntryTells i x.entry low high
EventTells (lookups i) (put_back j) low high = ⊥
EventTells (lookups i) (raised j) low high = ⊥
EventTells (lookups i) (cleared j) low high = ⊥
EventTells (lookups i) (mapped x) low high = ⊥
EventTells turns (counted x) low high = ⊥
EventTells turns (made x) low high = ⊥
EventTells turns (looked x) low high = ⊥
EventTells turns (loaded x) low high = ⊥
EventTells turns (turned x) low high = (low ≡ x.number) × (high ≡ x.number + 1)
EventTells turns (put_back j) low high = ⊥
EventTells turns (raised j) low high = ⊥
EventTells turns (cleared j) low high = ⊥
EventTells turns (mapped x) low high = ⊥
