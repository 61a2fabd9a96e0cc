-- SPDX-License-Identifier: GPL-2.0-only
-- Orders of lists, by pairs and by neighbours.
use Rattle.shr_assemble.proofs.Common.{◌≡◌, zero, suc, ◌+◌, List, [], ◌∷◌, ◌++◌, length, map, get_or, ap, subst, arith, flat_map, AllByRecursion, AllAdjacentBelow, slice_get-get_or, each_append, all_slice_by}
use Rattle.shr_lawful.proofs.Listed.{PairsRec}

-- R of each pair of elements of two lists
abbrev pub AllCross : {A : Type 0} → (A → A → Type 0) → List A → List A → Type 0
AllCross R xs ys = AllByRecursion (λ x. AllByRecursion (R x) ys) xs

pub pairs_append : {A : Type 0} (R : A → A → Type 0) (xs ys : List A) → PairsRec R xs → PairsRec R ys → AllCross R xs ys → PairsRec R (xs ++ ys)
pairs_append R [] ys a b c = b
pairs_append R (x ∷ xs) ys a b c = (each_append (R x) xs ys a.0 c.0, pairs_append R xs ys a.1 b c.1)

pub cross_append : {A : Type 0} (R : A → A → Type 0) (xs ys zs : List A) → AllCross R xs ys → AllCross R xs zs → AllCross R xs (ys ++ zs)
cross_append R [] ys zs a b = tt
cross_append R (x ∷ xs) ys zs a b = (each_append (R x) ys zs a.0 b.0, cross_append R xs ys zs a.1 b.1)

cross_none : {A : Type 0} (R : A → A → Type 0) (xs : List A) → AllCross R xs []
cross_none R [] = tt
cross_none R (x ∷ xs) = (tt, cross_none R xs)

pub cross_flat : {A B : Type 0} (R : B → B → Type 0) (f : A → List B) (xs : List B) (l : List A) → AllByRecursion (λ y. AllCross R xs (f y)) l → AllCross R xs (flat_map f l)
cross_flat R f xs [] h = cross_none R xs
cross_flat R f xs (y ∷ l) h = cross_append R xs (f y) (flat_map f l) h.0 (cross_flat R f xs l h.1)

-- the pairs of lists put end to end: those of each, and those of one and a later one
pub pairs_flat : {A B : Type 0} (R : B → B → Type 0) (f : A → List B) (l : List A) → AllByRecursion (λ y. PairsRec R (f y)) l → PairsRec (λ y z. AllCross R (f y) (f z)) l → PairsRec R (flat_map f l)
pairs_flat R f [] a b = tt
pairs_flat R f (y ∷ l) a b = pairs_append R (f y) (flat_map f l) a.0 (pairs_flat R f l a.1 b.1) (cross_flat R f (f y) l b.0)

-- neighbours are pairs
pub adjacent : {A : Type 0} (R : A → A → Type 0) (xs : List A) → PairsRec R xs → AllAdjacentBelow R xs (length xs)
adjacent R [] h k d lt = absurd (omega (arith, lt))
adjacent R (x ∷ xs) h zero d lt = subst (R x) (ap (λ n. get_or (x ∷ xs) n d) (one)) (all_slice_by (R x) xs 0 (get_or xs 0 d) h.0 (slice_get-get_or xs 0 d (omega (arith, lt)))) where
  one : 1 ≡ zero + 1
  one = omega arith
adjacent R (x ∷ xs) h (suc k) d lt =
    let here : R (get_or xs k d) (get_or xs (k + 1) d) = adjacent R xs h.1 k d (omega (arith, lt)) in
    subst (λ n. R (get_or xs k d) (get_or (x ∷ xs) n d)) (let e : suc (k + 1) ≡ suc k + 1 = omega arith in e) here

pub pairs_map : {A B : Type 0} (R : B → B → Type 0) (f : A → B) (xs : List A) → PairsRec (λ x y. R (f x) (f y)) xs → PairsRec R (map f xs)
pairs_map R f [] h = tt
pairs_map R f (x ∷ xs) h = (mapped xs h.0, pairs_map R f xs h.1) where
  mapped : (ys : List _) → AllByRecursion (λ y. R (f x) (f y)) ys → AllByRecursion (R (f x)) (map f ys)
  mapped [] h = tt
  mapped (y ∷ ys) h = (h.0, mapped ys h.1)
