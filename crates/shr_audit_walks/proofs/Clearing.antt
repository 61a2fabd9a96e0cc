-- SPDX-License-Identifier: GPL-2.0-only
-- Places whose bits were cleared, walk by walk.
use Rattle.shr_audit_walks.proofs.LaterCommon.{◌≡◌, ◌⊎◌, ℕ, ◌+◌, ◌<◌, ◌≤◌, Bool, true, false, cond, List, [], ◌∷◌, ◌++◌, length, get_or, take, map, filter, flat_map, refl, sym, ap, subst, ◌∙◌, inl, inr, ◌||◌, nat_eq, contains, list_any, cases_Bool, eq-eqb, ne_eqb, WorkerPart, Place, Attempt, WalkRecord, is_place, clearings_of, place_in, is_place_itself, is_place_same, clash, Report, fits, place_key, Clears, cleared_by, HasCleared, HasPlaces, PlaceSet}
use Rattle.std.proofs.lemmas.List.{append-nil, append_assoc, take_more, take_all}
use Rattle.std.proofs.lemmas.List.Concat.{flat_map-append}
use Rattle.std.proofs.lemmas.List.Folds.{list_any-append}
use Rattle.shr_model.specs.Attempts.{is_clearing}
use Rattle.shr_audit_walks.proofs.Citing.{same_key}
use Rattle.std.proofs.Math.Bool.{or-true, or-false}

pub clears_none : (t : PlaceSet) → Clears t t []
clears_none t places has = subst (λ (ps : List Place). HasPlaces ps t) (sym (append-nil places)) has

pub clears_one : (old new : PlaceSet) (p : Place) → fits p ≡ true → ((q : ℕ) → contains nat_eq new q ≡ cond (nat_eq (place_key p) q) true (contains nat_eq old q)) → Clears old new (p ∷ [])
clears_one old new p fit puts places has q fits_q = by (cases_Bool (is_place q p))
  where
    more : (b : Bool) → is_place q p ≡ b → list_any (is_place q) (places ++ p ∷ []) ≡ (list_any (is_place q) places || b)
    more b e = list_any-append (is_place q) places (p ∷ []) ∙ ap (λ (a : Bool). list_any (is_place q) places || a) (or-false (is_place q p) ∙ e)

    by : ((is_place q p ≡ true) ⊎ (is_place q p ≡ false)) → contains nat_eq new (place_key q) ≡ list_any (is_place q) (places ++ p ∷ [])
    by (inl t) =
        puts (place_key q)
        ∙ ap (λ (b : Bool). cond b true (contains nat_eq old (place_key q))) (eq-eqb (place_key p) (place_key q) (ap place_key (sym (is_place_same q p t))))
        ∙ sym (more true t ∙ or-true (list_any (is_place q) places))
    by (inr f) =
        puts (place_key q)
        ∙ ap (λ (b : Bool). cond b true (contains nat_eq old (place_key q))) (ne_eqb (place_key p) (place_key q) (λ e. clash (is_place q p) (subst (λ (r : Place). is_place q r ≡ true) (sym (same_key p q fit fits_q e)) (is_place_itself q)) f))
        ∙ has q fits_q ∙ sym (more false f ∙ or-false (list_any (is_place q) places))

pub clears_then : (old now new : PlaceSet) (f g : List Place) → Clears old now f → Clears now new g → Clears old new (f ++ g)
clears_then old now new f g first second places has = subst (λ (ps : List Place). HasPlaces ps new) (append_assoc places f g) (second (places ++ f) (first places has))

-- ---- an attempt

pub attempt_clears : (w : WalkRecord) (a : Attempt) (old new : PlaceSet) → is_clearing a.outcome ≡ true → Clears old new (place_in w a.id ∷ []) → Clears old new (cleared_by w a)
attempt_clears w a old new is h = subst (λ (b : Bool). Clears old new (cond b (place_in w a.id ∷ []) [])) (sym is) h

pub attempt_leaves : (w : WalkRecord) (a : Attempt) (t : PlaceSet) → is_clearing a.outcome ≡ false → Clears t t (cleared_by w a)
attempt_leaves w a t isnt = subst (λ (b : Bool). Clears t t (cond b (place_in w a.id ∷ []) [])) (sym isnt) (clears_none t)

pub by_attempts : (w : WalkRecord) (tries : List Attempt) → flat_map (cleared_by w) tries ≡ map (λ (a : Attempt). place_in w a.id) (filter (λ (a : Attempt). is_clearing a.outcome) tries)
by_attempts w [] = refl
by_attempts w (a ∷ tries) = ap (λ (ps : List Place). cleared_by w a ++ ps) (by_attempts w tries) ∙ head (is_clearing a.outcome)
  where
    rest : List Attempt
    rest = filter (λ (x : Attempt). is_clearing x.outcome) tries

    head : (b : Bool) → cond b (place_in w a.id ∷ []) [] ++ map (λ (x : Attempt). place_in w x.id) rest ≡ map (λ (x : Attempt). place_in w x.id) (cond b (a ∷ rest) rest)
    head true = refl
    head false = refl

-- ---- lists of what cleared

module _ {X : Type 0} (h : X → List Place) (xs : List X) (old now new : PlaceSet) (i : ℕ) where
  pub clears_more : (d : X) → i < length xs → Clears old now (flat_map h (take i xs)) → Clears now new (h (get_or xs i d)) → Clears old new (flat_map h (take (i + 1) xs))
  clears_more d lt before here = subst (Clears old new) one_more (clears_then old now new (flat_map h (take i xs)) (h (get_or xs i d)) before here)
    where
      one_more : flat_map h (take i xs) ++ h (get_or xs i d) ≡ flat_map h (take (i + 1) xs)
      one_more = sym (ap (flat_map h) (take_more xs i d lt) ∙ flat_map-append h (take i xs) (get_or xs i d ∷ []) ∙ ap (λ (ps : List Place). flat_map h (take i xs) ++ ps) (append-nil (h (get_or xs i d))))

  pub clears_all : length xs ≤ i → Clears old now (flat_map h (take i xs)) → Clears old now (flat_map h xs)
  clears_all over h-so-far = subst (λ (ys : List X). Clears old now (flat_map h ys)) (take_all i xs over) h-so-far

-- the walks of each part, one after another
pub by_parts : (parts : List WorkerPart) → flat_map (λ (part : WorkerPart). flat_map clearings_of part.walks.items) parts ≡ flat_map clearings_of (flat_map (λ (part : WorkerPart). part.walks.items) parts)
by_parts [] = refl
by_parts (part ∷ parts) = ap (λ (ps : List Place). flat_map clearings_of part.walks.items ++ ps) (by_parts parts) ∙ sym (flat_map-append clearings_of part.walks.items (flat_map (λ (p : WorkerPart). p.walks.items) parts))

-- from an empty set
pub all_cleared : (r : Report) (parts : List WorkerPart) (empty t : PlaceSet) → parts ≡ r.workers.items → ((q : ℕ) → contains nat_eq empty q ≡ false) → Clears empty t (flat_map (λ (part : WorkerPart). flat_map clearings_of part.walks.items) parts) → HasCleared r t
all_cleared r parts empty t same none h = subst (λ (ps : List Place). HasPlaces ps t) (by_parts parts ∙ ap (λ (xs : List WorkerPart). flat_map clearings_of (flat_map (λ (p : WorkerPart). p.walks.items) xs)) same) (h [] (λ place f. none (place_key place)))
