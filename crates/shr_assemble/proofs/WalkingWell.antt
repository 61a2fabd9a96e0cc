-- SPDX-License-Identifier: GPL-2.0-only
-- The record of a walk is as it must be, by how the walk went.
use Rattle.shr_assemble.proofs.Common.{◌≡◌, ℕ, zero, suc, ◌+◌, ◌*◌, ◌<◌, ◌≤◌, List, [], ◌∷◌, ◌++◌, length, map, sym, refl, ap, subst, ◌∙◌, arith, add-one, flat_map, Contains, slice_index_or, AllByRecursion, range_with_len, map-id, length-map, get_or-range_with_len, length-range_with_len, Attempt, MapSeen, each_append, each_weaker, Rise, AreNotFalling, ids_shown, all_rise, ids_within, unit_is, units_stay, AreNumbersRising, all_front, all_push, ◌^◌, slice_get, Some, Object, PassRecord, pass_of, shape_of, parents_of, Groups, objects_freed, PassSeen, IsWalkSeen, WorkerState, Work, Shared, Walk, by_slices, some_at, place_of_walk, ◌/◌, inr, true, false, take, sum_by, filter_map, none-some, take-append_seam, Kept, WalkAnswer, IsPrefixOf, IsPlaced, IsBitWord, Rising, record_of, parts_of, IsRecord, take-map-range_with_len, IsLastOfCut, drop, Bool, inl, Option, AreTriedFirst, IsWalkOver}
use Rattle.shr_walk.specs.Walked.{Ends}
pub use Rattle.shr_assemble.proofs.QuietSteps.{AreTables as IsTableOf}
use Rattle.std.specs.Option.{IfSome}
use Rattle.std.proofs.lemmas.List.{take-append-drop}
use Rattle.shr_model.specs.Bits as model
use Rattle.shr_model.specs.Places as places
use Rattle.shr_assemble.proofs.EndsJournals.{below_later}
use Rattle.shr_assemble.proofs.WalkingParts.{part_at}
use Rattle.shr_base.specs.declared.walks.Ending.TheVariants as ending
use Rattle.shr_base.specs.declared.walks.WalkAnswer.TheVariants as answered
use Rattle.shr_model.specs.Walks as walks
use Rattle.shr_walk.proofs.Ranging.{range_more, prefix_few}
use Rattle.shr_assemble.proofs.WalkingRecord.{rising_at, placed, cut_by, never_cut, last_cut}

pub range_suc : (n : ℕ) → range_with_len 0 (suc n) ≡ range_with_len 0 n ++ n ∷ []
range_suc n = ap (λ k. range_with_len 0 k) (sym (add-one n)) ∙ range_more n

-- ---- numbers that rise

rise_push : (xs : List ℕ) (n : ℕ) → AllByRecursion (λ x. x < n) xs → Rise xs → Rise (xs ++ n ∷ [])
rise_push [] n h r = (tt, tt)
rise_push (x ∷ xs) n h r = (all_push (λ y. x < y) xs n r.0 h.0, rise_push xs n h.1 r.1)

rise_front : (xs ys : List ℕ) → Rise (xs ++ ys) → Rise xs
rise_front [] ys r = tt
rise_front (x ∷ xs) ys r = (all_front (λ y. x < y) xs ys r.0, rise_front xs ys r.1)

pub range_below : (n : ℕ) → AllByRecursion (λ x. x < n) (range_with_len 0 n)
range_below zero = tt
range_below (suc n) = subst (AllByRecursion (λ x. x < suc n)) (sym (range_suc n)) (all_push (λ x. x < suc n) (range_with_len 0 n) n (below_later n (range_with_len 0 n) (range_below n)) (omega arith))

pub range_rise : (n : ℕ) → Rise (range_with_len 0 n)
range_rise zero = tt
range_rise (suc n) = subst Rise (sym (range_suc n)) (rise_push (range_with_len 0 n) n (range_below n) (range_rise n))

-- ---- the first of a list
prefix_rest : (xs ys : List ℕ) → IsPrefixOf xs ys → ys ≡ xs ++ drop (length xs) ys
prefix_rest xs ys h = sym (take-append-drop (length xs) ys) ∙ ap (λ l. l ++ drop (length xs) ys) h

prefix_rise : (xs ys : List ℕ) → IsPrefixOf xs ys → Rise ys → Rise xs
prefix_rise xs ys h r = rise_front xs (drop (length xs) ys) (subst Rise (prefix_rest xs ys h) r)

-- the first of the first numbers are the first numbers
prefix_range : (xs : List ℕ) (n : ℕ) → IsPrefixOf xs (range_with_len 0 n) → xs ≡ range_with_len 0 (length xs)
prefix_range xs n h = let few = prefix_few xs (range_with_len 0 n) h in let long = length-range_with_len 0 n in
    sym h ∙ (ap (take (length xs)) (sym (map-id (range_with_len 0 n))) ∙ (take-map-range_with_len (λ (i : ℕ). i) 0 n (length xs) (omega (arith, few, long)) ∙ map-id (range_with_len 0 (length xs))))

-- ---- the first units, a map for each
module _ (maps : List MapSeen) (n : ℕ) (first : IsPrefixOf (map (λ (m : MapSeen). m.unit) maps) (range_with_len 0 n)) where
  units_are : map (λ (m : MapSeen). m.unit) maps ≡ range_with_len 0 (length maps)
  units_are = prefix_range (map (λ (m : MapSeen). m.unit) maps) n first ∙ ap (range_with_len 0) (length-map maps (λ (m : MapSeen). m.unit))

  -- the ids that they show rise
  pub maps_rise : Rise (flat_map ids_shown maps)
  maps_rise = all_rise maps 0 units_are

  -- and so do the units
  units_rise : AreNumbersRising (map (λ (m : MapSeen). m.unit) maps)
  units_rise = subst AreNumbersRising (sym units_are) (λ k d lt.
      let long = length-range_with_len 0 (length maps) in
      let here = get_or-range_with_len 0 (length maps) k d (omega (arith, lt, long)) in
      let next = get_or-range_with_len 0 (length maps) (k + 1) d (omega (arith, lt, long)) in omega (arith, here, next))

-- each id that maps show is of the unit of one of them
ids_known : (maps : List MapSeen) → AllByRecursion (λ (id : ℕ). Contains (map (λ (m : MapSeen). m.unit) maps) (places.unit_of id)) (flat_map (λ (m : MapSeen). model.ids_in m.unit m.bits) maps)
ids_known [] = tt
ids_known (m ∷ maps) = each_append (λ (id : ℕ). Contains (map (λ (k : MapSeen). k.unit) (m ∷ maps)) (places.unit_of id)) (model.ids_in m.unit m.bits) (flat_map (λ (k : MapSeen). model.ids_in k.unit k.bits) maps)
    (each_weaker (λ (id : ℕ). (64 * m.unit ≤ id) × (id < 64 * m.unit + 64)) (λ (id : ℕ). Contains (map (λ (k : MapSeen). k.unit) (m ∷ maps)) (places.unit_of id)) (λ id p. (0, omega arith, sym (unit_is m.unit id p.0 p.1))) (model.ids_in m.unit m.bits) (ids_within m.unit m.bits))
    (each_weaker (λ (id : ℕ). Contains (map (λ (k : MapSeen). k.unit) maps) (places.unit_of id)) (λ (id : ℕ). Contains (map (λ (k : MapSeen). k.unit) (m ∷ maps)) (places.unit_of id)) (λ id c. let lt = c.1 in (suc c.0, omega (arith, lt), c.2)) (flat_map (λ (k : MapSeen). model.ids_in k.unit k.bits) maps) (ids_known maps))

all_of_ids : (P : ℕ → Type 0) (l : List Attempt) → AllByRecursion P (map (λ (a : Attempt). a.id) l) → AllByRecursion (λ (a : Attempt). P a.id) l
all_of_ids P [] h = tt
all_of_ids P (a ∷ l) h = (h.0, all_of_ids P l h.1)

-- attempts at the first of the ids that maps show are each of the unit of one of them
tries_known : (maps : List MapSeen) (l : List Attempt) → IsPrefixOf (map (λ (a : Attempt). a.id) l) (flat_map ids_shown maps) → AllByRecursion (λ (a : Attempt). Contains (map (λ (m : MapSeen). m.unit) maps) (places.unit_of a.id)) l
tries_known maps l first =
    let P : ℕ → Type 0 = λ id. Contains (map (λ (m : MapSeen). m.unit) maps) (places.unit_of id) in let tried = map (λ (a : Attempt). a.id) l in
    all_of_ids P l (all_front P tried (drop (length tried) (flat_map ids_shown maps)) (subst (AllByRecursion P) (prefix_rest tried (flat_map ids_shown maps) first) (ids_known maps)))

-- the units of attempts at rising ids don't fall
tries_stay : (l : List Attempt) → Rise (map (λ (a : Attempt). a.id) l) → AreNotFalling (map (λ (a : Attempt). places.unit_of a.id) l)
tries_stay l r = λ k d lt. subst (λ n. slice_index_or (map (λ (a : Attempt). places.unit_of a.id) l) k d ≤ slice_index_or (map (λ (a : Attempt). places.unit_of a.id) l) n d) (sym (add-one k)) (next l r k d (omega (arith, lt))) where
  next : (l : List Attempt) → Rise (map (λ (a : Attempt). a.id) l) → (k d : ℕ) → suc k < length (map (λ (a : Attempt). places.unit_of a.id) l) → slice_index_or (map (λ (a : Attempt). places.unit_of a.id) l) k d ≤ slice_index_or (map (λ (a : Attempt). places.unit_of a.id) l) (suc k) d
  next [] r k d lt = absurd (omega (arith, lt))
  next (a ∷ []) r k d lt = absurd (omega (arith, lt))
  next (a ∷ b ∷ l) r zero d lt = units_stay a.id b.id r.0.0
  next (a ∷ b ∷ l) r (suc k) d lt = next (b ∷ l) r.1 k d (omega (arith, lt))

module _ (x : Shared) (table : IsTableOf x) (walk : Walk) (maps : List MapSeen) (attempts : List Attempt) (s t : WorkerState) (w : Work) (seen : IsWalkSeen x walk maps attempts s t w) where
  -- each id that was tried is one of the script
  pub seen_id : (k : ℕ) (a : Attempt) → slice_get attempts k ≡ Some a → a.id < x.script.ids
  seen_id k a at = let lt = seen.ids k a (some_at attempts k a at) in let e = table.shared.ids in omega (arith, lt, e)

  -- each map is a word of 64 bits
  pub seen_bits : AllByRecursion (λ (m : MapSeen). m.bits < 2 ^ 64) maps
  seen_bits = by_slices (λ (m : MapSeen). m.bits < 2 ^ 64) maps (λ j m at. seen.bits j m (some_at maps j m at))

  -- what a pass told is known
  pub seen_pass : (k : ℕ) (a : Attempt) (p : PassRecord) → slice_get attempts k ≡ Some a → pass_of a.outcome ≡ Some p → PassSeen x (place_of_walk walk a.id) t p
  seen_pass k a p at e = subst (λ (q : Option PassRecord). IfSome q (PassSeen x (place_of_walk walk a.id) t)) e (seen.passes k a (some_at attempts k a at))

  -- each object that was freed was born in a group of the script
  pub seen_born : AllByRecursion (λ (o : Object). o.birth < length (parents_of x.script)) (objects_freed w.core.made)
  seen_born = by_slices (λ (o : Object). o.birth < length (parents_of x.script)) (objects_freed w.core.made)
      (λ j o at. subst (λ (ps : List ℕ). o.birth < length ps) (table.shared.parents ∙ ap (λ (g : Groups). g.parents) table.shared.tree) (seen.born j o (some_at (objects_freed w.core.made) j o at)))

pub begins_prefix : {A : Type 0} (xs rest ys : List A) → ys ≡ xs ++ rest → IsPrefixOf xs ys
begins_prefix xs rest ys e = ap (take (length xs)) e ∙ take-append_seam xs rest

-- the answer of a walk that went on, by whether there was memory for all of it
abbrev pub told_as : Bool → ℕ → WalkAnswer
told_as true freed = answered.Walked freed
told_as false freed = answered.Memory freed

pub went_on : (whole : Bool) (freed entry : ℕ) → told_as whole freed ≡ answered.Offline entry → ⊥
went_on true freed entry e = absurd (cc)
went_on false freed entry e = absurd (cc)

was_whole : (whole : Bool) (freed f : ℕ) → told_as whole freed ≡ answered.Walked f → whole ≡ true
was_whole true freed f e = refl
was_whole false freed f e = absurd (cc)

not_cut : (whole : Bool) (freed : ℕ) → walks.is_cut (told_as whole freed) ≡ false → whole ≡ true
not_cut true freed e = refl
not_cut false freed e = absurd (let f : true ≡ false = e in cc)

freed_as : (whole : Bool) (freed : ℕ) → walks.freed_told (told_as whole freed) ≡ freed
freed_as true freed = refl
freed_as false freed = refl

module _ (x : Shared) (table : IsTableOf x) (walk : Walk) (whole : Bool) (units ids : List ℕ) (maps : Kept MapSeen) (tries : Kept Attempt) (s t : WorkerState) (h : IsWalkOver x walk whole units ids maps.items tries.items s t) (rise : Rise ids) where
  pub tries_rise : Rise (map (λ (a : Attempt). a.id) tries.items)
  tries_rise = prefix_rise (map (λ (a : Attempt). a.id) tries.items) ids h.tried rise

  placed_all : (k : ℕ) (a : Attempt) → slice_get tries.items k ≡ Some a → IsPlaced walk.group a.outcome
  placed_all k a at = let p = part_at x walk tries.items (parts_of h.w) h.is.parts tries_rise k a at in
      placed x walk a.id a.outcome p.is.first p.is.more p.is.held p.part.made p.part.ops p.is.found (rising_at walk tries.items (subst Rising (sym h.is.counts) h.fresh.rising) k a at)

  all_made : (w : Bool) → Ends w units ids maps.items tries.items → w ≡ true → (map (λ (m : MapSeen). m.unit) maps.items ≡ units) × (map (λ (a : Attempt). a.id) tries.items ≡ ids)
  all_made true ended e = (ended.0, ended.1)
  all_made false ended e = absurd (let f : false ≡ true = e in cc)

  -- a pass that ended for want of room is the last of a walk that was cut
  no_room_last : (w : Bool) (freed : ℕ) → Ends w units ids maps.items tries.items → (k : ℕ) (a : Attempt) (p : PassRecord) → slice_get tries.items k ≡ Some a → pass_of a.outcome ≡ Some p → p.ending ≡ ending.NoRoom → IsLastOfCut (record_of walk maps tries (told_as w freed)) k
  no_room_last true freed ended k a p at e n = absurd (never_cut tries.items ended.2 k a at (cut_by a.outcome p e n))
  no_room_last false freed (inl last) k a p at e n = record { cut = refl; last = last_cut tries.items last k a at (cut_by a.outcome p e n) }
  no_room_last false freed (inr all) k a p at e n = absurd (never_cut tries.items all.1 k a at (cut_by a.outcome p e n))

  module _ (freed : ℕ) (sums : freed ≡ walks.freed_of (record_of walk maps tries (told_as whole freed))) (first : AreTriedFirst maps.items tries.items) where
    -- the record of a walk below the root
    pub record_below : 0 < walk.group → units ≡ model.units_of (shape_of x.core).ids → ids ≡ flat_map ids_shown maps.items → IsRecord x.script (record_of walk maps tries (told_as whole freed))
    record_below below units_is ids_is = record {
      offline = λ entry e. absurd (went_on whole freed entry e);
      mapped = λ f e ne. let all = all_made whole h.ended (was_whole whole freed f e) in (all.0 ∙ script_units, all.1 ∙ ids_is);
      root = λ e. absurd (omega (arith, below, e));
      memory = (λ e. record { units = subst (IsPrefixOf (map (λ (m : MapSeen). m.unit) maps.items)) script_units h.loaded; ids = λ ne. tried; tried = first; root = λ e'. absurd (omega (arith, below, e')) }, no_room_last whole freed h.ended);
      placed = placed_all;
      freed = freed_as whole freed ∙ sums;
      well = record {
        root = λ e. absurd (omega (arith, below, e));
        words = seen_bits x table walk maps.items tries.items s t h.w h.seen;
        units = units_rise maps.items ((((shape_of x.core).ids) + 63) / 64) (subst (IsPrefixOf (map (λ (m : MapSeen). m.unit) maps.items)) units_is h.loaded);
        attempts = λ ne. tries_stay tries.items tries_rise;
        loaded = λ ne. tries_known maps.items tries.items tried;
      };
    } where
      script_units : units ≡ model.units_of x.script.ids
      script_units = units_is ∙ ap model.units_of table.shared.ids

      tried : IsPrefixOf (map (λ (a : Attempt). a.id) tries.items) (flat_map ids_shown maps.items)
      tried = subst (IsPrefixOf (map (λ (a : Attempt). a.id) tries.items)) ids_is h.tried

    -- the record of a walk of the root
    pub record_root : walk.group ≡ 0 → units ≡ [] → ids ≡ range_with_len 0 (shape_of x.core).ids → IsRecord x.script (record_of walk maps tries (told_as whole freed))
    record_root root units_is ids_is = record {
      offline = λ entry e. absurd (went_on whole freed entry e);
      mapped = λ f e ne. absurd (ne root);
      root = λ e. (none, λ uncut. (all_made whole h.ended (not_cut whole freed uncut)).1 ∙ script_ids);
      memory = (
        λ e. record {
          units = subst (λ (l : List MapSeen). IsPrefixOf (map (λ (m : MapSeen). m.unit) l) (model.units_of x.script.ids)) (sym none) refl;
          ids = λ ne. absurd (ne root);
          tried = first;
          root = λ e'. subst (IsPrefixOf (map (λ (a : Attempt). a.id) tries.items)) script_ids h.tried;
        },
        no_room_last whole freed h.ended,
      );
      placed = placed_all;
      freed = freed_as whole freed ∙ sums;
      well = record {
        root = λ e. none;
        words = seen_bits x table walk maps.items tries.items s t h.w h.seen;
        units = subst (λ (l : List MapSeen). AreNumbersRising (map (λ (m : MapSeen). m.unit) l)) (sym none) (λ k d lt. absurd (omega (arith, lt)));
        attempts = λ ne. absurd (ne root);
        loaded = λ ne. absurd (ne root);
      };
    } where
      script_ids : ids ≡ range_with_len 0 x.script.ids
      script_ids = ids_is ∙ ap (range_with_len 0) table.shared.ids

      no_map : (l : List MapSeen) → length l ≤ 0 → l ≡ []
      no_map [] le = refl
      no_map (m ∷ l) le = absurd (omega (arith, le))

      none : maps.items ≡ []
      none = no_map maps.items (let few = prefix_few (map (λ (m : MapSeen). m.unit) maps.items) units h.loaded in let long = length-map maps.items (λ (m : MapSeen). m.unit) in let z = ap (λ (l : List ℕ). length l) units_is in omega (arith, few, long, z))

-- an offline walk has no map and no attempt
pub record_offline : (x : Shared) (walk : Walk) (maps : Kept MapSeen) (tries : Kept Attempt) (entry : ℕ) → 0 < walk.group → maps.items ≡ [] → tries.items ≡ [] → IsRecord x.script (record_of walk maps tries (answered.Offline entry))
record_offline x walk maps tries entry below no_map no_attempt = record {
  offline = λ e is. (no_map, no_attempt);
  mapped = λ f e ne. absurd (cc);
  root = λ e. absurd (omega (arith, below, e));
  memory = (λ e. absurd (let f : false ≡ true = e in cc), λ k a p at e n. absurd (nowhere k a at));
  placed = λ k a at. absurd (nowhere k a at);
  freed = sym (ap (λ (l : List Attempt). sum_by (λ (p : PassRecord). p.freed) (filter_map (λ (a : Attempt). pass_of a.outcome) l)) no_attempt);
  well = record {
    root = λ e. no_map;
    words = subst (AllByRecursion (λ (m : MapSeen). IsBitWord m.bits)) (sym no_map) tt;
    units = subst (λ (l : List MapSeen). AreNumbersRising (map (λ (m : MapSeen). m.unit) l)) (sym no_map) (λ k d lt. absurd (omega (arith, lt)));
    attempts = λ ne k d lt. let n : length (map (λ (a : Attempt). places.unit_of a.id) tries.items) ≡ 0 = ap (λ (l : List Attempt). length (map (λ (a : Attempt). places.unit_of a.id) l)) no_attempt in absurd (omega (arith, lt, n));
    loaded = λ ne. subst (AllByRecursion (λ (a : Attempt). Contains (map (λ (m : MapSeen). m.unit) maps.items) (places.unit_of a.id))) (sym no_attempt) tt;
  };
} where
  nowhere : (k : ℕ) (a : Attempt) → slice_get tries.items k ≡ Some a → ⊥
  nowhere k a at = none-some a (sym (ap (λ (l : List Attempt). slice_get l k) no_attempt) ∙ at)
