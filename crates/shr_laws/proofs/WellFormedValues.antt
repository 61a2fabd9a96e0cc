-- SPDX-License-Identifier: GPL-2.0-only
-- The first whole report is well formed, and changes of it in one place are not.
use Rattle.shr_laws.proofs.Common.{◌≡◌, ℕ, ◌<◌, ◌≤◌, ◌^◌, true, false, List, [], ◌∷◌, ◌++◌, length, map, codes, slice_get, Some, refl, AllAdjacentBelow, zero, suc, arith, ap, inl, inr, ⊎_elim, subst, length-append, none-some, same_Some, MapEnd, PlaceAmount, PlaceEnd, WorkerPart, Entry, Look, PoolEntry, Registered, Unregistered, Idle, Begin, Made, Place, Serial, Attempt, Carry, Isolation, MapSeen, PlainWalk, Walked, WalkRecord, fresh, Report, AreOfCommands, IsPlaceBefore, IsPlaceUpTo, IsPartWell, map_units, bit_places, IsWellFormed, IsUseBefore}
use Rattle.shr_base.specs.declared.replies.Reply.TheVariants as reply
use Rattle.shr_base.specs.declared.walks.Outcome.TheVariants as outcome
use Rattle.shr_model.specs.Paths.{is_path}
use Rattle.shr_model.specs.Pieces.{pieces, cut}
use Rattle.shr_laws.proofs.QuietParts.{none_of_commands}
use Rattle.shr_laws.proofs.PlaceOrder.{not_before_itself, not_up_to}
use Rattle.shr_laws.proofs.SecondReport as second
use Rattle.shr_laws.proofs.FirstReport as first

-- the part of its worker
abbrev pub part : WorkerPart
part = record { answers = second.kept (first.answer ∷ []); walks = second.kept []; carries = second.kept []; plain = second.kept []; isolations = second.kept [] }

-- it is well formed
pub part_well : (worker : ℕ) (p : WorkerPart) → slice_get (part ∷ []) worker ≡ Some p → IsPartWell worker p
part_well (suc worker) p e = absurd (none-some p e)
part_well zero p e = subst (IsPartWell 0) (same_Some part p e) (record {
  answers = (tt, tt);
  walks = tt;
  walkers = tt;
  walk_order = λ k d lt. absurd (omega (arith, lt));
  carriers = tt;
  carry_order = λ k d lt. absurd (omega (arith, lt));
  carry_places = λ k d lt. absurd (omega (arith, lt));
  plain = none PlainWalk (λ w. w.by) 0 1;
  isolations = none Isolation (λ i. i.by) 0 1;
})
  where
    none : (X : Type 0) (serial : X → Serial) (worker answers : ℕ) → AreOfCommands X serial worker answers []
    none X serial worker answers = none_of_commands serial worker answers [] refl

-- it has an answer
pub last_answered : (before : List WorkerPart) (p : WorkerPart) → part ∷ [] ≡ before ++ p ∷ [] → 0 < length p.answers.items
last_answered [] p e = subst (λ (q : WorkerPart). 0 < length q.answers.items) (let same : part ≡ p = cc in same) (omega arith)
last_answered (b ∷ before) p e = absurd (let more = length-append before (p ∷ []) in let e2 : [] ≡ before ++ p ∷ [] = cc in let none = ap (λ (ps : List WorkerPart). length ps) e2 in omega (arith, more, none))

-- the first whole report is well formed
pub well_formed : IsWellFormed first.report
unfolding is_path pieces cut
well_formed = record {
  version = inl refl;
  sizes = (omega arith, omega arith);
  paths = (refl, (refl, tt));
  names = (refl, tt);
  pool = ((omega arith, omega arith, omega arith), tt);
  tree = tt;
  few_parts = omega arith;
  parts = part_well;
  last = last_answered;
  places = (record { numbers = record { id = omega arith; node = omega arith; group = omega arith }; entered = omega arith; entries = ((refl, refl), tt); items = (record { key = refl; value = refl }, tt) }, tt);
  place_order = λ k d lt. absurd (omega (arith, lt));
  maps = (omega arith, tt);
  map_places = refl;
  deferred = tt;
  deferred_order = λ k d lt. absurd (omega (arith, lt));
  use_order = rising;
  lookups = refl;
  numbers = (omega arith, tt);
  totals = (omega arith, omega arith, omega arith);
  pools = tt;
  units = tt;
  unit_order = λ k d lt. absurd (omega (arith, lt));
  pool_deferred = tt;
  pool_order = λ k d lt. absurd (omega (arith, lt));
}
  where
    rising : AllAdjacentBelow IsUseBefore (second.use_step 0 0 true 0 0 ∷ second.use_step 1 0 true 0 0 ∷ []) 2
    rising zero d lt = inl (omega arith)
    rising (suc k) d lt = absurd (omega (arith, lt))

-- a third version
later_version : IsWellFormed (record first.report { version = 3 }) → ⊥
later_version h = ⊎_elim (λ (e : 3 ≡ 1). absurd (omega (arith, e))) (λ (e : 3 ≡ 2). absurd (omega (arith, e))) h.version

-- the parts of the workers
abbrev with_part : WorkerPart → Report
with_part p = record first.report { workers = second.kept (p ∷ []) }

-- a number that its type doesn't hold
many_nodes : IsWellFormed (record first.report { nodes = 256 }) → ⊥
many_nodes h = let low = h.sizes.0 in absurd (omega (arith, low))

-- a path without its slash, a name with one
bad_path : IsWellFormed (record first.report { groups = second.kept (codes "a" ∷ []) }) → ⊥
unfolding is_path
bad_path h = absurd (let e : false ≡ true = h.paths.0 in cc)

bad_name : IsWellFormed (record first.report { caches = second.kept (codes "/a" ∷ []) }) → ⊥
bad_name h = absurd (let e : false ≡ true = h.names.0 in cc)

-- a declaration, an id, a number and a group that their types don't hold
abbrev with_pool : PoolEntry → Report
with_pool e = record first.report { pool = second.kept (e ∷ []) }

far_decl : IsWellFormed (with_pool (Registered 256 0 0)) → ⊥
far_decl h = let low = h.pool.0.0 in absurd (omega (arith, low))

far_id : IsWellFormed (with_pool (Idle (2 ^ 16))) → ⊥
far_id h = let low = h.pool.0 in absurd (omega (arith, low))

far_number : IsWellFormed (with_pool (Unregistered 0 0 (2 ^ 32))) → ⊥
far_number h = let low = h.pool.0.2 in absurd (omega (arith, low))

far_group : IsWellFormed (record first.report { tree = second.kept (Begin (2 ^ 16) ∷ []) }) → ⊥
far_group h = let low = h.tree.0 in absurd (omega (arith, low))

far_made : IsWellFormed (record first.report { tree = second.kept (Made (2 ^ 16) ∷ []) }) → ⊥
far_made h = let low = h.tree.0 in absurd (omega (arith, low))

-- a value that isn't a word
bad_value : IsWellFormed (with_part (record part { answers = second.kept (second.held (reply.Hit (record { place = second.place; entry = 0 }) (codes " ")) 0 ∷ []) })) → ⊥
bad_value h = absurd (let e : false ≡ true = (h.parts 0 _ refl).answers.0 in cc)

abbrev walk_of : ℕ → ℕ → List MapSeen → List Attempt → WalkRecord
walk_of worker group maps attempts = record { by = record { worker = worker; command = 0 }; group = group; node = 0; priority = 0; nofs = false; maps = second.kept maps; attempts = second.kept attempts; answer = Walked 0 }

abbrev with_walk : WalkRecord → Report
with_walk w = with_part (record part { walks = second.kept (w ∷ []) })

-- a walk of the root with a map
root_map : IsWellFormed (with_walk (walk_of 0 0 (record { unit = 0; bits = 0 } ∷ []) [])) → ⊥
root_map h = absurd (let e = (h.parts 0 _ refl).walks.0.root refl in cc)

-- a map of more than 64 bits, one unit loaded twice, and an attempt at an id of a unit that wasn't loaded
wide_map : IsWellFormed (with_walk (walk_of 0 1 (record { unit = 0; bits = 2 ^ 64 } ∷ []) [])) → ⊥
wide_map h = let low = (h.parts 0 _ refl).walks.0.words.0 in absurd (omega (arith, low))

unit_twice : IsWellFormed (with_walk (walk_of 0 1 (record { unit = 0; bits = 0 } ∷ record { unit = 0; bits = 0 } ∷ []) [])) → ⊥
unit_twice h = let low : 0 < 0 = (h.parts 0 _ refl).walks.0.units 0 0 (omega arith) in absurd (omega (arith, low))

unit_not_loaded : IsWellFormed (with_walk (walk_of 0 1 [] (second.cleared ∷ []))) → ⊥
unit_not_loaded h = let there = ((h.parts 0 _ refl).walks.0.loaded (λ (e : 1 ≡ 0). omega (arith, e))).0 in let within = there.1 in absurd (omega (arith, within))

abbrev carry_of : ℕ → Carry
carry_of command = record { by = second.by command; place = second.place; amount = 1 }

-- attempts out of the order of their units
attempts_fall : IsWellFormed (with_walk (walk_of 0 1 (record { unit = 0; bits = 0 } ∷ record { unit = 1; bits = 0 } ∷ []) (record { id = 64; outcome = outcome.Cleared 0 0 0 } ∷ second.cleared ∷ []))) → ⊥
attempts_fall h = let low : 1 ≤ 0 = (h.parts 0 _ refl).walks.0.attempts (λ (e : 1 ≡ 0). omega (arith, e)) 0 0 (omega arith) in absurd (omega (arith, low))

-- walks, and carries, out of the order of their commands
abbrev two_answers : WorkerPart
two_answers = record part { answers = second.kept (first.answer ∷ first.answer ∷ []) }

walks_fall : IsWellFormed (with_part (record two_answers { walks = second.kept (record (walk_of 0 1 [] []) { by = second.by 1 } ∷ walk_of 0 1 [] [] ∷ []) })) → ⊥
walks_fall h = let low : 1 ≤ 0 = (h.parts 0 _ refl).walk_order 0 0 (omega arith) in absurd (omega (arith, low))

carries_fall : IsWellFormed (with_part (record two_answers { carries = second.kept (carry_of 1 ∷ carry_of 0 ∷ []) })) → ⊥
carries_fall h = let low : 1 ≤ 0 = (h.parts 0 _ refl).carry_order 0 0 (omega arith) in absurd (omega (arith, low))

-- a walk in the part of another worker
walk_elsewhere : IsWellFormed (with_walk (walk_of 1 1 [] [])) → ⊥
walk_elsewhere h = let e = (h.parts 0 _ refl).walkers.0.0 in absurd (omega (arith, e))

-- a carry of a command that has no answer, and two of one command at one place
carry_unanswered : IsWellFormed (with_part (record part { carries = second.kept (carry_of 1 ∷ []) })) → ⊥
carry_unanswered h = let low = (h.parts 0 _ refl).carriers.0.1 in absurd (omega (arith, low))

carry_twice : IsWellFormed (with_part (record part { carries = second.kept (carry_of 0 ∷ carry_of 0 ∷ []) })) → ⊥
carry_twice h = ⊎_elim (λ (low : 0 < 0). absurd (omega (arith, low))) (λ (same : (0 ≡ 0) × (0 < 0)). let low = same.1 in absurd (omega (arith, low))) ((h.parts 0 _ refl).carry_places 0 (carry_of 0) (omega arith) refl)

-- a last part without an answer
idle_last : IsWellFormed (with_part (record { answers = second.kept []; walks = second.kept []; carries = second.kept []; plain = second.kept []; isolations = second.kept [] })) → ⊥
idle_last h = let some = h.last [] _ refl in absurd (omega (arith, some))

-- places stand by id, then by node, then by group, also where a node is above 3
abbrev at : ℕ → ℕ → ℕ → Place
at id node group = record { id = id; node = node; group = group }

lower_id : IsPlaceBefore (at 0 5 0) (at 1 0 0)
lower_id = inl (omega arith)

lower_id_still : IsPlaceBefore (at 0 5 0) (at 1 1 0)
lower_id_still = inl (omega arith)

lower_node : IsPlaceBefore (at 1 0 65535) (at 1 1 0)
lower_node = inr (refl, inl (omega arith))

lower_group : IsPlaceBefore (at 1 1 0) (at 1 1 1)
lower_group = inr (refl, inr (refl, omega arith))

higher_node : IsPlaceUpTo (at 1 1 0) (at 1 0 65535) → ⊥
higher_node h = not_up_to _ _ (inr (refl, inl (omega arith))) h

same_place : IsPlaceUpTo (at 1 1 1) (at 1 1 1)
same_place = inr refl

-- a list without an entry, of a node that no number of its type is, with a key that isn't one; two out of order
abbrev end_at : Place → List Entry → PlaceEnd
end_at place entries = record { place = place; entries = second.kept entries; items = second.kept [] }

empty_list : IsWellFormed (record first.report { places = second.kept (end_at second.place [] ∷ []) }) → ⊥
empty_list h = let some = h.places.0.entered in absurd (omega (arith, some))

far_list : IsWellFormed (record first.report { places = second.kept (end_at (record second.place { node = 256 }) first.entries ∷ []) }) → ⊥
far_list h = let low = h.places.0.numbers.node in absurd (omega (arith, low))

bad_key : IsWellFormed (record first.report { places = second.kept (end_at second.place (Look (second.by 0) 1 [] true ∷ []) ∷ []) }) → ⊥
bad_key h = absurd (let e : false ≡ true = h.places.0.entries.0 in cc)

bad_item : IsWellFormed (record first.report { places = second.kept (record first.end { items = second.kept (fresh (second.by 0) 1 [] [] ∷ []) } ∷ []) }) → ⊥
bad_item h = absurd (let e : false ≡ true = h.places.0.items.0.key in cc)

lists_fall : IsWellFormed (record first.report { places = second.kept (first.end ∷ end_at (record second.place { group = 0 }) first.entries ∷ []) }) → ⊥
lists_fall h = not_up_to _ _ (inr (refl, inr (refl, omega arith))) (h.place_order 0 first.end (omega arith))

many_parts : (parts : List WorkerPart) → 2 ^ 16 < length parts → IsWellFormed (record first.report { workers = second.kept parts }) → ⊥
many_parts parts many h = let few = h.few_parts in absurd (omega (arith, many, few))

-- no bit word; one of another unit; one of more than 64 bits; one of the root
no_bits : IsWellFormed (record first.report { maps = second.kept [] }) → ⊥
no_bits h = absurd (let e = h.map_places in cc)

abbrev with_map : ℕ → ℕ → ℕ → Report
with_map group unit bits = record first.report { maps = second.kept (record { node = 0; group = group; unit = unit; bits = bits } ∷ []) }

-- where the first bit word stands
group_in : List (ℕ × ℕ × ℕ) → ℕ
group_in [] = 2
group_in (x ∷ xs) = x.1

unit_in : List (ℕ × ℕ × ℕ) → ℕ
unit_in [] = 2
unit_in (x ∷ xs) = x.2

other_unit : IsWellFormed (with_map 1 1 1) → ⊥
unfolding unit_in
other_unit h = absurd (let e : 1 ≡ 0 = ap (λ (l : List (ℕ × ℕ × ℕ)). unit_in l) h.map_places in omega (arith, e))

wide_bits : IsWellFormed (with_map 1 0 (2 ^ 64)) → ⊥
wide_bits h = let low = h.maps.0 in absurd (omega (arith, low))

root_bits : IsWellFormed (with_map 0 0 1) → ⊥
unfolding group_in
root_bits h = absurd (let e : 0 ≡ 1 = ap (λ (l : List (ℕ × ℕ × ℕ)). group_in l) h.map_places in omega (arith, e))

-- the bit words of 65 ids: in version 2 of each unit, in version 1 of the first alone; none of a unit that is left out
abbrev wide : ℕ → List ℕ → Report
wide version units = record first.report { version = version; ids = 65; maps = second.kept (map (λ unit. record { node = 0; group = 1; unit = unit; bits = 0 }) units) }

abbrev stand : Report → Type 0
stand r = map (λ (m : MapEnd). (m.node, m.group, m.unit)) r.maps.items ≡ bit_places r.nodes (length r.groups.items) (map_units r)

two_units : stand (wide 2 (0 ∷ 1 ∷ []))
two_units = refl

first_unit : stand (wide 1 (0 ∷ []))
first_unit = refl

unit_left_out : stand (wide 2 (0 ∷ [])) → ⊥
unit_left_out h = absurd (let e : 1 ≡ 2 = ap (λ (l : List (ℕ × ℕ × ℕ)). length l) h in omega (arith, e))

unit_too_many : stand (wide 1 (0 ∷ 1 ∷ [])) → ⊥
unit_too_many h = absurd (let e : 2 ≡ 1 = ap (λ (l : List (ℕ × ℕ × ℕ)). length l) h in omega (arith, e))

-- a deferred word of 0, one that is more than 64 bits have, and one printed twice
abbrev with_amounts : List PlaceAmount → Report
with_amounts ds = record first.report { deferred = second.kept ds }

abbrev amount : ℕ → PlaceAmount
amount n = record { place = second.place; amount = n }

zero_amount : IsWellFormed (with_amounts (amount 0 ∷ [])) → ⊥
zero_amount h = h.deferred.0.some refl

wide_amount : IsWellFormed (with_amounts (amount (2 ^ 64) ∷ [])) → ⊥
wide_amount h = let low = h.deferred.0.amount in absurd (omega (arith, low))

amount_twice : IsWellFormed (with_amounts (amount 1 ∷ amount 1 ∷ [])) → ⊥
amount_twice h = not_before_itself second.place (h.deferred_order 0 (amount 1) (omega arith))

-- a charge printed twice
use_twice : IsWellFormed (record first.report { uses = second.kept (second.use_step 0 0 true 0 0 ∷ second.use_step 0 0 true 0 0 ∷ []) }) → ⊥
use_twice h = ⊎_elim (λ (low : 0 < 0). absurd (omega (arith, low))) (λ (same : (0 ≡ 0) × (0 < 0)). let low = same.1 in absurd (omega (arith, low))) (h.use_order 0 (second.use_step 0 0 true 0 0) (omega arith))

-- no number of lookups for the id, and one that 32 bits don't hold
no_lookups : IsWellFormed (record first.report { lookups = second.kept [] }) → ⊥
no_lookups h = let e = h.lookups in absurd (omega (arith, e))

wide_lookups : IsWellFormed (record first.report { lookups = second.kept (2 ^ 32 ∷ []) }) → ⊥
wide_lookups h = let low = h.numbers.0 in absurd (omega (arith, low))

-- a total that 64 bits don't hold
wide_total : IsWellFormed (record first.report { added = 2 ^ 64 }) → ⊥
wide_total h = let low = h.totals.0 in absurd (omega (arith, low))
