-- SPDX-License-Identifier: GPL-2.0-only
-- A report with a pool of units, a walk of the pools and an isolation is well formed, and changes of it
-- in one place are not.
use Rattle.shr_laws.proofs.Common.{◌≡◌, ℕ, ◌<◌, ◌≤◌, true, false, List, [], ◌∷◌, ◌++◌, length, codes, slice_get, Some, refl, zero, suc, arith, inl, inr, ap, subst, length-append, none-some, same_Some, PlaceAmount, UnitsEnd, WorkerPart, PlainEntry, Place, Serial, Isolation, PlainWalk, Report, IsPartWell, IsWellFormed}
use Rattle.shr_base.specs.declared.journals.PlainEntry.TheVariants.{Grab}
use Rattle.shr_base.specs.declared.replies.IsolateEnd.TheVariants as isolate
use Rattle.shr_base.specs.declared.walks.PlainAnswer.TheVariants.{Walked}
use Rattle.shr_laws.proofs.PlaceOrder.{not_before_itself, not_up_to}
use Rattle.shr_laws.proofs.SecondReport as second
use Rattle.shr_laws.proofs.FirstReport as first
use Rattle.shr_laws.proofs.WellFormedValues.{part, part_well, well_formed}

abbrev walk_by : Serial → PlainWalk
walk_by by = record { by = by; node = 0; priority = 0; tries = second.kept []; answer = Walked 0 }

abbrev isolation_by : Serial → Isolation
isolation_by by = record { by = by; place = second.place; budget = 1; visits = 1; freed = 1; ending = isolate.Spent }

abbrev units_at : ℕ → ℕ → List PlainEntry → UnitsEnd
units_at pool node entries = record { pool = pool; node = node; entries = second.kept entries; free = 0 }

abbrev word_at : Place → ℕ → PlaceAmount
word_at place amount = record { place = place; amount = amount }

abbrev pool_place : Place
pool_place = record { id = 0; node = 0; group = 0 }

abbrev entries : List PlainEntry
entries = Grab (second.by 0) false ∷ []

-- the part of a worker with these walks of the pools and isolations, and two answers
abbrev told : List PlainWalk → List Isolation → WorkerPart
told walks isolations = record part { answers = second.kept (first.answer ∷ first.answer ∷ []); plain = second.kept walks; isolations = second.kept isolations }

abbrev with : WorkerPart → List (List ℕ) → List UnitsEnd → List PlaceAmount → Report
with p names units words = record first.report { workers = second.kept (p ∷ []); pools = second.kept names; units = second.kept units; pool_deferred = second.kept words }

-- one walk of the pools, one isolation, one pool with a journal and a deferred word
abbrev own : WorkerPart
own = told (walk_by (second.by 0) ∷ []) (isolation_by (second.by 1) ∷ [])

own_well : (worker : ℕ) (p : WorkerPart) → slice_get (own ∷ []) worker ≡ Some p → IsPartWell worker p
own_well (suc worker) p e = absurd (none-some p e)
own_well zero p e = let quiet = part_well 0 part refl in subst (IsPartWell 0) (same_Some own p e) (record {
  answers = (tt, (tt, tt));
  walks = tt;
  walkers = tt;
  walk_order = quiet.walk_order;
  carriers = tt;
  carry_order = quiet.carry_order;
  carry_places = quiet.carry_places;
  plain = record { by = ((refl, omega arith), tt); order = λ k d lt. absurd (omega (arith, lt)) };
  isolations = record { by = ((refl, omega arith), tt); order = λ k d lt. absurd (omega (arith, lt)) };
})

own_answers : (before : List WorkerPart) (p : WorkerPart) → own ∷ [] ≡ before ++ p ∷ [] → 0 < length p.answers.items
own_answers [] p e = subst (λ (q : WorkerPart). 0 < length q.answers.items) (let same : own ≡ p = cc in same) (omega arith)
own_answers (b ∷ before) p e = absurd (let more = length-append before (p ∷ []) in let e2 : [] ≡ before ++ p ∷ [] = cc in let none = ap (λ (ps : List WorkerPart). length ps) e2 in omega (arith, more, none))

with_pools : IsWellFormed (with own (codes "buf" ∷ []) (units_at 0 0 entries ∷ []) (word_at pool_place 5 ∷ []))
with_pools = record {
  version = well_formed.version;
  sizes = well_formed.sizes;
  paths = well_formed.paths;
  names = well_formed.names;
  pool = well_formed.pool;
  tree = tt;
  few_parts = omega arith;
  parts = own_well;
  last = own_answers;
  places = well_formed.places;
  place_order = well_formed.place_order;
  maps = well_formed.maps;
  map_places = well_formed.map_places;
  deferred = tt;
  deferred_order = well_formed.deferred_order;
  use_order = well_formed.use_order;
  lookups = well_formed.lookups;
  numbers = well_formed.numbers;
  totals = well_formed.totals;
  pools = (refl, tt);
  units = (omega arith, tt);
  unit_order = λ k d lt. absurd (omega (arith, lt));
  pool_deferred = (record { amount = record { numbers = record { id = omega arith; node = omega arith; group = omega arith }; some = λ (e : 5 ≡ 0). omega (arith, e); amount = omega arith }; group = refl }, tt);
  pool_order = λ k d lt. absurd (omega (arith, lt));
}

-- a pool whose name has a slash
bad_pool : IsWellFormed (with part (codes "/buf" ∷ []) [] []) → ⊥
bad_pool h = absurd (let e : false ≡ true = h.pools.0 in cc)

-- a pool's journal without an entry, and two that don't stand by pool and node
no_entry : IsWellFormed (with part [] (units_at 0 0 [] ∷ []) []) → ⊥
no_entry h = let some = h.units.0 in absurd (omega (arith, some))

units_fall : IsWellFormed (with part [] (units_at 0 1 entries ∷ units_at 0 0 entries ∷ []) []) → ⊥
units_fall h = not_up_to _ _ (inr (refl, inl (omega arith))) (h.unit_order 0 (units_at 0 0 entries) (omega arith))

-- a deferred word of a pool that is 0, that is of a group, and that is printed twice
zero_word : IsWellFormed (with part [] [] (word_at pool_place 0 ∷ [])) → ⊥
zero_word h = h.pool_deferred.0.amount.some refl

group_word : IsWellFormed (with part [] [] (word_at second.place 1 ∷ [])) → ⊥
group_word h = absurd (let e : 1 ≡ 0 = h.pool_deferred.0.group in omega (arith, e))

word_twice : IsWellFormed (with part [] [] (word_at pool_place 1 ∷ word_at pool_place 1 ∷ [])) → ⊥
word_twice h = not_before_itself pool_place (h.pool_order 0 (word_at pool_place 1) (omega arith))

-- a walk of the pools in the part of another worker, one of a command that has no answer, and two out of order
abbrev with_walks : List PlainWalk → Report
with_walks walks = with (told walks []) [] [] []

plain_elsewhere : IsWellFormed (with_walks (walk_by (record { worker = 1; command = 0 }) ∷ [])) → ⊥
plain_elsewhere h = let e = (h.parts 0 _ refl).plain.by.0.0 in absurd (omega (arith, e))

plain_unanswered : IsWellFormed (with_walks (walk_by (second.by 2) ∷ [])) → ⊥
plain_unanswered h = let low = (h.parts 0 _ refl).plain.by.0.1 in absurd (omega (arith, low))

plain_falls : IsWellFormed (with_walks (walk_by (second.by 1) ∷ walk_by (second.by 0) ∷ [])) → ⊥
plain_falls h = let low : 1 ≤ 0 = (h.parts 0 _ refl).plain.order 0 0 (omega arith) in absurd (omega (arith, low))

-- the same of isolations
abbrev with_isolations : List Isolation → Report
with_isolations isolations = with (told [] isolations) [] [] []

isolated_elsewhere : IsWellFormed (with_isolations (isolation_by (record { worker = 1; command = 0 }) ∷ [])) → ⊥
isolated_elsewhere h = let e = (h.parts 0 _ refl).isolations.by.0.0 in absurd (omega (arith, e))

isolated_unanswered : IsWellFormed (with_isolations (isolation_by (second.by 2) ∷ [])) → ⊥
isolated_unanswered h = let low = (h.parts 0 _ refl).isolations.by.0.1 in absurd (omega (arith, low))

isolations_fall : IsWellFormed (with_isolations (isolation_by (second.by 1) ∷ isolation_by (second.by 0) ∷ [])) → ⊥
isolations_fall h = let low : 1 ≤ 0 = (h.parts 0 _ refl).isolations.order 0 0 (omega arith) in absurd (omega (arith, low))
