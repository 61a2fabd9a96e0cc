-- SPDX-License-Identifier: GPL-2.0-only
-- What an event tells of the measures that only grow, and which event it is that tells a number.
use Rattle.shr_lawful.proofs.Common.{◌≡◌, ℕ, ◌+◌, ◌≤◌, Bool, true, false, ◌&&◌, length, sym, ap, ◌∙◌, arith, eqb, nat_lt, and_parts, eqb-true, PoolEntry, Registered, Unregistered, Idle, place_number, attempts_in, Event, counted, made, looked, loaded, turned, EventTells, ToldMeasure, entries, lookups, turns, TurnTells}
use Rattle.shr_core.specs.Ranks as core

-- ---- the event of what is told, by its numbers
abbrev pub is_entry : ℕ → ℕ → Event → Bool
is_entry k n (made m) = eqb m.place k && eqb m.number n
is_entry k n e = false

abbrev pub is_lookup : ℕ → ℕ → Event → Bool
is_lookup id n (looked t) = eqb t.id id && eqb t.number n
is_lookup id n e = false

abbrev pub is_turn : ℕ → Event → Bool
is_turn n (turned t) = eqb t.number n
is_turn n e = false

-- those that pass tell the number
pub entry_tells : (k n : ℕ) (e : Event) → is_entry k n e ≡ true → EventTells (core.entries k) e n (n + 1)
entry_tells k n (made m) h = let t = and_parts (eqb m.place k) (eqb m.number n) h in let p = eqb-true m.place k t.0 in let q = eqb-true m.number n t.1 in (p, sym q, ap (λ i. i + 1) (sym q))
entry_tells k n e h = absurd (cc)

pub lookup_tells : (id n : ℕ) (e : Event) → is_lookup id n e ≡ true → EventTells (core.lookups id) e n (n + 1)
lookup_tells id n (looked t) h = let b = and_parts (eqb t.id id) (eqb t.number n) h in let p = eqb-true t.id id b.0 in let q = eqb-true t.number n b.1 in (p, sym q, ap (λ i. i + 1) (sym q))
lookup_tells id n e h = absurd (cc)

pub turn_tells : (n : ℕ) (e : Event) → is_turn n e ≡ true → EventTells core.turns e n (n + 1)
turn_tells n (turned t) h = let q = eqb-true t.number n h in (sym q, ap (λ i. i + 1) (sym q))
turn_tells n e h = absurd (cc)

-- ---- what an event tells of a measure is fixed
entry_alone : (i low high low' high' : ℕ) (e : PoolEntry) → core.EntryTells i e low high → core.EntryTells i e low' high' → (low ≡ low') × (high ≡ high')
entry_alone i low high low' high' (Registered decl id from) t u = (t.1 ∙ sym u.1, t.2 ∙ sym u.2)
entry_alone i low high low' high' (Unregistered decl id to) t u = (t.1 ∙ sym u.1, t.2 ∙ sym u.2)
entry_alone i low high low' high' (Idle id) t u = absurd t

pub alone : (m : core.Measure) (e : Event) (low high low' high' : ℕ) → EventTells m e low high → EventTells m e low' high' → (low ≡ low') × (high ≡ high')
alone (core.entries k) (counted x) low high low' high' t u = (t.1 ∙ sym u.1, t.2 ∙ sym u.2)
alone (core.entries k) (made x) low high low' high' t u = (t.1 ∙ sym u.1, t.2 ∙ sym u.2)
alone (core.lookups i) (looked x) low high low' high' t u = (t.1 ∙ sym u.1, t.2 ∙ sym u.2)
alone (core.lookups i) (loaded x) low high low' high' t u = (t.1 ∙ sym u.1, t.2 ∙ sym u.2)
alone (core.lookups i) (turned x) low high low' high' t u = entry_alone i low high low' high' x.entry t u
alone core.turns (turned x) low high low' high' t u = (t.0 ∙ sym u.0, t.1 ∙ sym u.1)
alone m e low high low' high' t u = absurd t

abbrev pub core_of : ToldMeasure → core.Measure
core_of (entries place) = core.entries (place_number place)
core_of (lookups id) = core.lookups id
core_of turns = core.turns

pub one_try : (e : Event) → length (attempts_in e) ≤ 1
one_try (counted x) = omega arith
one_try e = omega arith

pub not_below : (n l : ℕ) → l ≤ n → nat_lt n l ≡ false
not_below n l le = grind (arith, le)

pub registered : (i low high : ℕ) (e : PoolEntry) → TurnTells i low high e → core.EntryTells i e low high
registered i low high (Registered decl id from) t = t
registered i low high e t = t

-- a registration tells one number
pub registered_flat : (i low high : ℕ) (e : PoolEntry) → TurnTells i low high e → low ≡ high
registered_flat i low high (Registered decl id from) t = t.1 ∙ sym t.2
registered_flat i low high (Unregistered decl id to) t = t.1 ∙ sym t.2
registered_flat i low high (Idle id) t = absurd t
