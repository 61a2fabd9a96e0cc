-- SPDX-License-Identifier: GPL-2.0-only
-- Versions noted one after_suc another.
use Rattle.shr_audit_walks.proofs.VersionsCommon.{◌≡◌, ℕ, ◌<◌, ◌≤◌, Bool, true, false, List, length, get_or, take, map, flat_map, Option, None, refl, sym, ap, subst, ◌∙◌, arith, Decides, Place, WalkRecord, counts_of, versions_at, AreNotFalling, Notes, if_here, zero, suc, ◌+◌, cond, [], ◌∷◌, ◌++◌, drop, filter, place_in, NotFallingFrom, NotFallingOn, Versions, fits, last_at, place_key, read_as}
use Rattle.std.specs.Prelude.{nat_eq}
use Rattle.std.specs.HashMap.{get}
use Rattle.std.proofs.lemmas.List.{append-nil, append_assoc, take_more, take_all, take-append-drop}
use Rattle.std.proofs.lemmas.List.Concat.{flat_map-append}
use Rattle.shr_base.specs.Walks.{Attempt}
use Rattle.shr_model.specs.Places.{is_place}
use Rattle.shr_model.proofs.Numbers.{after_suc}

-- ---- tables and lists of the same

same_on : (t : Versions) (f g : Place → List ℕ) → ((q : Place) → f q ≡ g q) → NotFallingOn t f → NotFallingOn t g
same_on t f g same h q = subst (NotFallingFrom (last_at t q)) (same q) (h q)

pub notes_same : (old new : Versions) (b : Bool) (f g : Place → List ℕ) → ((q : Place) → f q ≡ g q) → Notes old new b f → Notes old new b g
notes_same old new b f g same n rest = (
  λ h. (n rest).0 (same_on old (λ q. g q ++ rest q) (λ q. f q ++ rest q) (λ q. ap (λ (xs : List ℕ). xs ++ rest q) (sym (same q))) h),
  λ h. same_on old (λ q. f q ++ rest q) (λ q. g q ++ rest q) (λ q. ap (λ (xs : List ℕ). xs ++ rest q) (same q)) ((n rest).1 h),
)

-- one after_suc the other
pub notes_both : (old now new : Versions) (a b : Bool) (f g : Place → List ℕ) → a ≡ true → Notes old now a f → Notes now new b g → Notes old new b (λ q. f q ++ g q)
notes_both old now new a b f g sure first second rest = (
  λ h. (second rest).0 ((first (λ q. g q ++ rest q)).0 (same_on old (λ q. (f q ++ g q) ++ rest q) (λ q. f q ++ (g q ++ rest q)) (λ q. append_assoc (f q) (g q) (rest q)) h)).1,
  λ h. same_on old (λ q. f q ++ (g q ++ rest q)) (λ q. (f q ++ g q) ++ rest q) (λ q. sym (append_assoc (f q) (g q) (rest q))) ((first (λ q. g q ++ rest q)).1 (sure, (second rest).1 h)),
)

-- where the first fall, so do they with others behind them
pub notes_fall : (old now new : Versions) (b : Bool) (f g : Place → List ℕ) → b ≡ false → Notes old now b f → Notes old new false (λ q. f q ++ g q)
notes_fall old now new b f g isnt first rest = (
  λ h. absurd (clash b ((first (λ q. g q ++ rest q)).0 (same_on old (λ q. (f q ++ g q) ++ rest q) (λ q. f q ++ (g q ++ rest q)) (λ q. append_assoc (f q) (g q) (rest q)) h)).0 isnt),
  λ h. absurd (clash false h.0 refl),
)
  where
    clash : (b : Bool) → b ≡ true → b ≡ false → ⊥
    clash b e f = cc

-- two versions at a place are one and one
pub two_here : (here : Place) (xs ys : List ℕ) (q : Place) → if_here here xs q ++ if_here here ys q ≡ if_here here (xs ++ ys) q
two_here here xs ys q = by (is_place q here)
  where
    by : (b : Bool) → cond b xs [] ++ cond b ys [] ≡ cond b (xs ++ ys) []
    by true = refl
    by false = refl

module _ (old now new : Versions) (here : Place) (first second : ℕ) where
  pub two_fall : (b : Bool) → b ≡ false → Notes old now b (if_here here (first ∷ [])) → Notes old now false (if_here here (first ∷ second ∷ []))
  two_fall b isnt h = notes_same old now false (λ q. if_here here (first ∷ []) q ++ if_here here (second ∷ []) q) (if_here here (first ∷ second ∷ [])) (two_here here (first ∷ []) (second ∷ [])) (notes_fall old now now b (if_here here (first ∷ [])) (if_here here (second ∷ [])) isnt h)

  pub two_noted : (a b : Bool) → a ≡ true → Notes old now a (if_here here (first ∷ [])) → Notes now new b (if_here here (second ∷ [])) → Notes old new b (if_here here (first ∷ second ∷ []))
  two_noted a b sure h g = notes_same old new b (λ q. if_here here (first ∷ []) q ++ if_here here (second ∷ []) q) (if_here here (first ∷ second ∷ [])) (two_here here (first ∷ []) (second ∷ [])) (notes_both old now new a b (if_here here (first ∷ [])) (if_here here (second ∷ [])) sure h g)

-- ---- lists of what has versions

module _ {X : Type 0} (of : Place → X → List ℕ) (xs : List X) (old now new : Versions) (i : ℕ) where
  pub noted_more : (b : Bool) (d : X) → i < length xs → b ≡ true → Notes old now true (λ q. flat_map (of q) (take i xs)) → Notes now new b (λ q. of q (get_or xs i d)) → Notes old new true (λ q. flat_map (of q) (take (i + 1) xs))
  noted_more b d lt sure before here = subst (λ (a : Bool). Notes old new a (λ q. flat_map (of q) (take (i + 1) xs))) sure
      (notes_same old new b (λ q. flat_map (of q) (take i xs) ++ of q (get_or xs i d)) (λ q. flat_map (of q) (take (i + 1) xs)) one_more (notes_both old now new true b (λ q. flat_map (of q) (take i xs)) (λ q. of q (get_or xs i d)) refl before here))
    where
      one_more : (q : Place) → flat_map (of q) (take i xs) ++ of q (get_or xs i d) ≡ flat_map (of q) (take (i + 1) xs)
      one_more q = sym (ap (flat_map (of q)) (take_more xs i d lt) ∙ flat_map-append (of q) (take i xs) (get_or xs i d ∷ []) ∙ ap (λ (ys : List ℕ). flat_map (of q) (take i xs) ++ ys) (append-nil (of q (get_or xs i d))))

  pub noted_all : length xs ≤ i → Notes old now true (λ q. flat_map (of q) (take i xs)) → Notes old now true (λ q. flat_map (of q) xs)
  noted_all over h = notes_same old now true (λ q. flat_map (of q) (take i xs)) (λ q. flat_map (of q) xs) (λ q. ap (flat_map (of q)) (take_all i xs over)) h

-- those of which one falls
module _ {X : Type 0} (of : Place → X → List ℕ) (xs : List X) (old now new : Versions) (i : ℕ) where
  pub noted_falls : (b : Bool) (d : X) → i < length xs → b ≡ false → Notes old now true (λ q. flat_map (of q) (take i xs)) → Notes now new b (λ q. of q (get_or xs i d)) → Notes old new false (λ q. flat_map (of q) xs)
  noted_falls b d lt isnt before here =
      notes_same old new false (λ q. (flat_map (of q) (take i xs) ++ of q (get_or xs i d)) ++ flat_map (of q) (drop (i + 1) xs)) (λ q. flat_map (of q) xs) whole
      (notes_fall old new new b (λ q. flat_map (of q) (take i xs) ++ of q (get_or xs i d)) (λ q. flat_map (of q) (drop (i + 1) xs)) isnt (notes_both old now new true b (λ q. flat_map (of q) (take i xs)) (λ q. of q (get_or xs i d)) refl before here))
    where
      front : take i xs ++ get_or xs i d ∷ [] ≡ take (i + 1) xs
      front = sym (take_more xs i d lt)

      whole : (q : Place) → (flat_map (of q) (take i xs) ++ of q (get_or xs i d)) ++ flat_map (of q) (drop (i + 1) xs) ≡ flat_map (of q) xs
      whole q =
          ap (λ (ys : List ℕ). (flat_map (of q) (take i xs) ++ ys) ++ flat_map (of q) (drop (i + 1) xs)) (sym (append-nil (of q (get_or xs i d))))
          ∙ ap (λ (ys : List ℕ). ys ++ flat_map (of q) (drop (i + 1) xs)) (sym (flat_map-append (of q) (take i xs) (get_or xs i d ∷ [])) ∙ ap (flat_map (of q)) front)
          ∙ sym (flat_map-append (of q) (take (i + 1) xs) (drop (i + 1) xs))
          ∙ ap (flat_map (of q)) (take-append-drop (i + 1) xs)

-- ---- the versions of a walk, attempt by attempt

-- those of an attempt, at the place of it alone
abbrev pub tried : WalkRecord → Place → Attempt → List ℕ
tried w place a = if_here (place_in w a.id) (map (λ c. c.version) (counts_of a.outcome)) place

pub by_attempts : (w : WalkRecord) (place : Place) → flat_map (tried w place) w.attempts.items ≡ versions_at place w
by_attempts w place = go w.attempts.items
  where
    all : Attempt → List ℕ
    all a = map (λ c. c.version) (counts_of a.outcome)

    is : Attempt → Bool
    is a = is_place place (place_in w a.id)

    head : (b : Bool) (a : Attempt) (rest : List Attempt) → cond b (all a) [] ++ flat_map all rest ≡ flat_map all (cond b (a ∷ rest) rest)
    head true a rest = refl
    head false a rest = refl

    go : (tries : List Attempt) → flat_map (tried w place) tries ≡ flat_map all (filter is tries)
    go [] = refl
    go (a ∷ tries) = ap (λ (ys : List ℕ). cond (is a) (all a) [] ++ ys) (go tries) ∙ head (is a) a (filter is tries)

module _ (w : WalkRecord) (tries : List Attempt) (old now new : Versions) (i : ℕ) where
  module _ (b : Bool) (d : Attempt) (place : Place) (at : place ≡ place_in w (get_or tries i d).id) (lt : i < length tries) (before : Notes old now true (λ q. flat_map (tried w q) (take i tries)))
      (here : Notes now new b (if_here place (map (λ c. c.version) (counts_of (get_or tries i d).outcome)))) where
    own : Notes now new b (λ q. tried w q (get_or tries i d))
    own = subst (λ (p : Place). Notes now new b (if_here p (map (λ c. c.version) (counts_of (get_or tries i d).outcome)))) at here

    pub walk_more : b ≡ true → Notes old new true (λ q. flat_map (tried w q) (take (i + 1) tries))
    walk_more sure = noted_more (tried w) tries old now new i b d lt sure before own

    pub walk_falls : b ≡ false → tries ≡ w.attempts.items → Notes old new false (λ q. versions_at q w)
    walk_falls isnt all = notes_same old new false (λ q. flat_map (tried w q) tries) (λ q. versions_at q w) (λ q. ap (flat_map (tried w q)) all ∙ by_attempts w q) (noted_falls (tried w) tries old now new i b d lt isnt before own)

  pub walk_all : length tries ≤ i → tries ≡ w.attempts.items → Notes old now true (λ q. flat_map (tried w q) (take i tries)) → Notes old now true (λ q. versions_at q w)
  walk_all over all h = notes_same old now true (λ q. flat_map (tried w q) tries) (λ q. versions_at q w) (λ q. ap (flat_map (tried w q)) all ∙ by_attempts w q) (noted_all (tried w) tries old now new i over h)

-- ---- from an empty table

not_falling : (low : ℕ) (xs : List ℕ) → NotFallingFrom low xs → AreNotFalling xs
not_falling low [] h k d lt = absurd (omega arith)
not_falling low (x ∷ []) h k d lt = absurd (omega arith)
not_falling low (x ∷ y ∷ ys) h zero d lt = h.1.0
not_falling low (x ∷ y ∷ ys) h (suc k) d lt = subst (λ (n : ℕ). get_or (y ∷ ys) k d ≤ get_or (x ∷ y ∷ ys) n d) (after_suc k) (not_falling x (y ∷ ys) h.1 k d (omega arith))

from_first : (x : ℕ) (xs : List ℕ) → AreNotFalling (x ∷ xs) → NotFallingFrom x xs
from_first x [] h = tt
from_first x (y ∷ ys) h = (h 0 0 (omega arith), from_first y ys (λ k d lt. subst (λ (n : ℕ). get_or (y ∷ ys) k d ≤ get_or (x ∷ y ∷ ys) n d) (sym (after_suc k)) (h (suc k) d (omega arith))))

from_none : (xs : List ℕ) → AreNotFalling xs → NotFallingFrom 0 xs
from_none [] h = tt
from_none (x ∷ xs) h = (omega arith, from_first x xs h)

pub notes_decide : (empty now : Versions) (b : Bool) (all : Place → List ℕ) → ((k : ℕ) → get nat_eq empty k ≡ None) → Notes empty now b all → Decides b ((place : Place) → AreNotFalling (all place))
notes_decide empty now b all none n = (
  λ t place. not_falling (last_at empty place) (all place) (subst (NotFallingFrom (last_at empty place)) (append-nil (all place)) ((n (λ q. [])).1 (t, λ q. tt) place)),
  λ h. ((n (λ q. [])).0 (λ place. subst (NotFallingFrom (last_at empty place)) (sym (append-nil (all place))) (subst (λ (low : ℕ). NotFallingFrom low (all place)) (sym (zero_there place)) (from_none (all place) (h place))))).0,
)
  where
    zero_there : (place : Place) → last_at empty place ≡ 0
    zero_there place = ap (λ (o : Option ℕ). cond (fits place) (read_as o) 0) (none (place_key place)) ∙ by (fits place)
      where
        by : (b : Bool) → ◌≡◌ {A = ℕ} (cond b 0 0) 0
        by true = refl
        by false = refl
