-- SPDX-License-Identifier: GPL-2.0-only
-- A walk over units and ids, put together of its parts.
use Rattle.shr_walk.proofs.Common.{◌≡◌, ℕ, ◌<◌, ◌^◌, inl, inr, Bool, true, false, List, [], ◌∷◌, ◌++◌, map, length, sym, refl, ap, subst, ◌∙◌, arith, append_assoc, length-append, map-append, append-nil, All-nil, All-append, All-cons, Attempt, MapSeen, map_number, Shared, Walk, nothing, WorkerState, Work, no_work, Does, IsAttempted, IsUncut, is_outcome_cut, Ends, IsWalkOver, AreTried, with_map, of_map}
use Rattle.shr_walk.proofs.Attempting.{does_core}
use Rattle.shr_walk.proofs.Doing.{does_none, does_then}
use Rattle.shr_walk.proofs.FreshLaws.{fresh_none, fresh_then}
use Rattle.shr_walk.proofs.Ranging.{prefix_longer, prefix_then}
use Rattle.shr_walk.proofs.Recording.{record_none, record_then, record_map, record_attempt}
use Rattle.shr_walk.proofs.ShownLaws.{seen_none, seen_then, seen_map, seen_attempt}

map_then : {A : Type 0} (f : A → ℕ) (xs ys : List A) (fs gs : List ℕ) → map f xs ≡ fs → map f ys ≡ gs → map f (xs ++ ys) ≡ fs ++ gs
map_then f xs ys fs gs e d = map-append f xs ys ∙ (ap (λ l. l ++ map f ys) e ∙ ap (λ l. fs ++ l) d)

ends_then : (whole : Bool) (units more_units ids more_ids : List ℕ) (maps more : List MapSeen) (xs ys : List Attempt) → Ends true units ids maps xs → Ends whole more_units more_ids more ys → Ends whole (units ++ more_units) (ids ++ more_ids) (maps ++ more) (xs ++ ys)
ends_then true units more_units ids more_ids maps more xs ys a b = (map_then (λ (m : MapSeen). m.unit) maps more units more_units a.0 b.0, map_then (λ (y : Attempt). y.id) xs ys ids more_ids a.1 b.1, All-append IsUncut xs ys a.2 b.2)
ends_then false units more_units ids more_ids maps more xs ys a (inl (front, last, e, uncut, cut)) = inl (xs ++ front, last, ap (λ y. xs ++ y) e ∙ sym (append_assoc xs front (last ∷ [])), All-append IsUncut xs front a.2 uncut, cut)
ends_then false units more_units ids more_ids maps more xs ys a (inr (some, uncut)) = inr (let n = length-append units more_units in omega (arith, some, n), All-append IsUncut xs ys a.2 uncut)

module _ (x : Shared) (walk : Walk) where
  -- a walk over nothing
  pub over_none : (s : WorkerState) → IsWalkOver x walk true [] [] [] [] s s
  over_none s = record { w = no_work; does = does_none s; fresh = fresh_none s.core; is = record_none x walk; seen = seen_none x walk s; loaded = refl; tried = refl; ended = (refl, refl, All-nil IsUncut) }

  -- where there was memory for all of the first part, the next one goes on behind it
  pub over_then : (whole : Bool) (units more_units ids more_ids : List ℕ) (maps more : List MapSeen) (xs ys : List Attempt) (s t u : WorkerState) → IsWalkOver x walk true units ids maps xs s t → IsWalkOver x walk whole more_units more_ids more ys t u
      → IsWalkOver x walk whole (units ++ more_units) (ids ++ more_ids) (maps ++ more) (xs ++ ys) s u
  over_then whole units more_units ids more_ids maps more xs ys s t u a b = record {
    w = _;
    does = does_then s t u a.w b.w a.does b.does;
    fresh = fresh_then s.core t.core a.w.core b.w.core.seen a.does.core a.fresh b.fresh;
    is = record_then x walk maps more xs ys a.w b.w a.is b.is;
    seen = seen_then x walk maps more xs ys s t u a.w b.w a.does b.does a.seen b.seen;
    loaded = prefix_then (λ (m : MapSeen). m.unit) maps more units more_units a.ended.0 b.loaded;
    tried = prefix_then (λ (y : Attempt). y.id) xs ys ids more_ids a.ended.1 b.tried;
    ended = ends_then whole units more_units ids more_ids maps more xs ys a.ended b.ended;
  }

  module _ (units rest ids more : List ℕ) (maps : List MapSeen) (xs : List Attempt) (s t : WorkerState) where
    -- a walk that was cut is cut over more
    pub over_more : IsWalkOver x walk false units ids maps xs s t → IsWalkOver x walk false (units ++ rest) (ids ++ more) maps xs s t
    over_more h = record { w = h.w; does = h.does; fresh = h.fresh; is = h.is; seen = h.seen; loaded = prefix_longer (map (λ (m : MapSeen). m.unit) maps) units rest h.loaded; tried = prefix_longer (map (λ (y : Attempt). y.id) xs) ids more h.tried; ended = still h.ended } where
      still : Ends false units ids maps xs → Ends false (units ++ rest) (ids ++ more) maps xs
      still (inl cut) = inl cut
      still (inr (some, uncut)) = inr (let n = length-append units rest in omega (arith, some, n), uncut)

    -- a walk that was whole so far is cut over more, where there are units
    pub over_short : 0 < length (units ++ rest) → IsWalkOver x walk true units ids maps xs s t → IsWalkOver x walk false (units ++ rest) (ids ++ more) maps xs s t
    over_short some h = record { w = h.w; does = h.does; fresh = h.fresh; is = h.is; seen = h.seen; loaded = prefix_longer (map (λ (m : MapSeen). m.unit) maps) units rest h.loaded; tried = prefix_longer (map (λ (y : Attempt). y.id) xs) ids more h.tried; ended = inr (some, h.ended.2) }

  -- the load of a map
  pub over_map : (m : MapSeen) (s t : WorkerState) → t ≡ record s { core = with_map s.core (map_number walk.node walk.group m.unit) m.bits } → m.bits < 2 ^ 64 → IsWalkOver x walk true (m.unit ∷ []) [] (m ∷ []) [] s t
  over_map m s t mapped fits = record {
    w = work;
    does = subst (λ (y : WorkerState). Does s y work) (sym mapped) (does_core s (with_map s.core k m.bits) _ (of_map s.core k m.bits));
    fresh = fresh_none s.core;
    is = record_map x walk m s.core.marks.sets;
    seen = seen_map x walk m k s t fits;
    loaded = refl;
    tried = refl;
    ended = (refl, refl, All-nil IsUncut);
  } where
    k : ℕ
    k = map_number walk.node walk.group m.unit

    work : Work
    work = record no_work { core = record nothing { maps = record { map = k; bits = m.bits; set = s.core.marks.sets } ∷ [] } }

  module _ (a : Attempt) (s t : WorkerState) (tried : IsAttempted x walk a.id a.outcome s t) where
    over_one : (whole : Bool) → Ends whole [] (a.id ∷ []) [] (a ∷ []) → IsWalkOver x walk whole [] (a.id ∷ []) [] (a ∷ []) s t
    over_one whole ended = record { w = _; does = tried.does; fresh = tried.fresh; is = record_attempt x walk a s t tried; seen = seen_attempt x walk a s t tried; loaded = refl; tried = refl; ended = ended }

    pub over_attempt : is_outcome_cut a.outcome ≡ false → IsWalkOver x walk true [] (a.id ∷ []) [] (a ∷ []) s t
    over_attempt uncut = over_one true (refl, refl, All-cons IsUncut a [] uncut (All-nil IsUncut))

    pub over_cut : is_outcome_cut a.outcome ≡ true → IsWalkOver x walk false [] (a.id ∷ []) [] (a ∷ []) s t
    over_cut cut = over_one false (inl ([], a, refl, All-nil IsUncut, cut))

  -- ---- attempts behind those before
  module _ (ids : List ℕ) (before now : List Attempt) (s t : WorkerState) (h : AreTried x walk true ids before now s t) (a : Attempt) (u : WorkerState) (tried : IsAttempted x walk a.id a.outcome t u) where
    items_more : now ++ a ∷ [] ≡ before ++ (h.0 ++ a ∷ [])
    items_more = ap (λ l. l ++ a ∷ []) h.1 ∙ append_assoc before h.0 (a ∷ [])

    -- one id more was tried
    pub tried_more : (id : ℕ) → a.id ≡ id → is_outcome_cut a.outcome ≡ false → AreTried x walk true (ids ++ id ∷ []) before (now ++ a ∷ []) s u
    tried_more id at uncut = (h.0 ++ a ∷ [], items_more, subst (λ (n : ℕ). IsWalkOver x walk true [] (ids ++ n ∷ []) [] (h.0 ++ a ∷ []) s u) at (over_then true [] [] ids (a.id ∷ []) [] [] h.0 (a ∷ []) s t u h.2 (over_attempt a t u tried uncut)))

    -- an attempt that lacked memory was the last of more
    pub tried_cut : (id : ℕ) (all rest : List ℕ) → a.id ≡ id → all ≡ (ids ++ id ∷ []) ++ rest → is_outcome_cut a.outcome ≡ true → AreTried x walk false all before (now ++ a ∷ []) s u
    tried_cut id all rest at e cut = (
      h.0 ++ a ∷ [],
      items_more,
      subst (λ (l : List ℕ). IsWalkOver x walk false [] l [] (h.0 ++ a ∷ []) s u) (sym (e ∙ ap (λ (n : ℕ). (ids ++ n ∷ []) ++ rest) (sym at)))
          (over_more [] [] (ids ++ a.id ∷ []) rest [] (h.0 ++ a ∷ []) s u (over_then false [] [] ids (a.id ∷ []) [] [] h.0 (a ∷ []) s t u h.2 (over_cut a t u tried cut))),
    )

  pub tried_none : (before : List Attempt) (s : WorkerState) → AreTried x walk true [] before before s s
  tried_none before s = ([], sym (append-nil before), over_none s)
