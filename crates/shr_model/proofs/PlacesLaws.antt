-- SPDX-License-Identifier: GPL-2.0-only
-- Places, and the ends of lists by place.
use Rattle.shr_model.proofs.Common.{◌≡◌, ◌≢◌, ◌⊎◌, ℕ, zero, suc, ◌<◌, true, ◌&&◌, ◌==◌, List, [], ◌∷◌, length, map, find, slice_get, Contains, refl, Some, None, ap, sym, ◌∙◌, inl, inr, cases_Bool, and_parts, and_from, eqb-true, Place, place_number, AllAdjacentBelow, is_place}
use Rattle.std.proofs.lemmas.Bool.{eq-eqb}
use Rattle.shr_base.specs.declared.ends.PlaceEnd.{PlaceEnd}
use Rattle.shr_model.proofs.BagLaws.{AreApart, AreApart_from_numbers}
use Rattle.shr_model.proofs.Members.{Has, Contains_from_Has, each_has}

-- the test says what it is named after
pub is_place_same : (p q : Place) → is_place p q ≡ true → p ≡ q
is_place_same p q h =
    let parts = and_parts ((p.id == q.id) && (p.node == q.node)) (p.group == q.group) h in
    let first = and_parts (p.id == q.id) (p.node == q.node) parts.0 in
    let ids = eqb-true p.id q.id first.0 in
    let nodes = eqb-true p.node q.node first.1 in
    let groups = eqb-true p.group q.group parts.1 in
    λ i. record { id = ids i; node = nodes i; group = groups i }

pub is_place_itself : (p : Place) → is_place p p ≡ true
is_place_itself p =
    and_from ((p.id == p.id) && (p.node == p.node)) (p.group == p.group)
    (and_from (p.id == p.id) (p.node == p.node) (eq-eqb p.id p.id refl) (eq-eqb p.node p.node refl))
    (eq-eqb p.group p.group refl)

found_end : (ends : List PlaceEnd) (place : Place) → (find (λ end. is_place end.place place) ends ≡ None) ⊎ Has (map (λ end. end.place) ends) place
found_end [] place = inl refl
found_end (e ∷ es) place = elim (cases_Bool (is_place e.place place)) [
  | inl own ↦ inr (inl (is_place_same e.place place own))
  | inr other ↦ elim (found_end es place) [
    | inl none ↦ inl (rw other none)
    | inr later ↦ inr (inr later)
  ]
]

-- an end's place is among them
end_has : (ends : List PlaceEnd) (n : ℕ) (end : PlaceEnd) → slice_get ends n ≡ Some end → Has (map (λ e. e.place) ends) end.place
end_has [] n end at = absurd (cc)
end_has (e ∷ es) zero end at = let same : e ≡ end = cc in inl (ap (λ (f : PlaceEnd). f.place) same)
end_has (e ∷ es) (suc n) end at = inr (end_has es n end at)

-- the numbers of the places of ends
numbers_of_ends : (ends : List PlaceEnd) → map place_number (map (λ end. end.place) ends) ≡ map (λ (end : PlaceEnd). place_number end.place) ends
numbers_of_ends [] = refl
numbers_of_ends (e ∷ es) = ap (λ (ns : List ℕ). place_number e.place ∷ ns) (numbers_of_ends es)

-- an end is found at a place, and it is that place's, or none is
pub find_end : (ends : List PlaceEnd) (place : Place) → (find (λ end. is_place end.place place) ends ≡ None) ⊎ Contains (map (λ end. end.place) ends) place
find_end ends place = elim (found_end ends place) [ inl none ↦ inl none | inr has ↦ inr (Contains_from_Has (map (λ end. end.place) ends) place has) ]

-- where the places of the ends are pairwise different, each end is found at its place
pub find_own_end : (ends : List PlaceEnd) → AreApart (map (λ end. end.place) ends) → (n : ℕ) (end : PlaceEnd) → slice_get ends n ≡ Some end → find (λ e. is_place e.place end.place) ends ≡ Some end
find_own_end [] apart n end at = absurd (cc)
find_own_end (e ∷ es) apart zero end at =
    let same : e ≡ end = cc in
    let own : is_place e.place end.place ≡ true = ap (λ (f : PlaceEnd). is_place e.place f.place) (sym same) ∙ is_place_itself e.place in
    rw own (ap (λ (f : PlaceEnd). Some f) same)
find_own_end (e ∷ es) apart (suc n) end at = elim (cases_Bool (is_place e.place end.place)) [
  | inl own ↦ absurd (each_has (λ q. e.place ≢ q) (map (λ f. f.place) es) end.place apart.0 (end_has es n end at) (is_place_same e.place end.place own))
  | inr other ↦ rw other (find_own_end es apart.1 n end at)
]

-- ends in the order of the numbers of their places are of pairwise different places
pub AreApart_of_ends : (ends : List PlaceEnd) → AllAdjacentBelow (λ n m. n < m) (map (λ (end : PlaceEnd). place_number end.place) ends) (length (map (λ (end : PlaceEnd). place_number end.place) ends)) → AreApart (map (λ end. end.place) ends)
AreApart_of_ends ends rise =
    AreApart_from_numbers (map (λ end. end.place) ends) (rw (numbers_of_ends ends) (λ k within. rise k 0 within))

-- ends of pairwise different places are of one place only where they are one
pub ends_once : (ends : List PlaceEnd) → AreApart (map (λ end. end.place) ends) → (n m : ℕ) (x y : PlaceEnd) → slice_get ends n ≡ Some x → slice_get ends m ≡ Some y → x.place ≡ y.place → n ≡ m
ends_once [] apart n m x y at there same = absurd (cc)
ends_once (e ∷ es) apart zero zero x y at there same = refl
ends_once (e ∷ es) apart zero (suc m) x y at there same =
    let is : e ≡ x = cc in
    absurd (each_has (λ q. e.place ≢ q) (map (λ f. f.place) es) y.place apart.0 (end_has es m y there) (ap (λ (f : PlaceEnd). f.place) is ∙ same))
ends_once (e ∷ es) apart (suc n) zero x y at there same =
    let is : e ≡ y = cc in
    absurd (each_has (λ q. e.place ≢ q) (map (λ f. f.place) es) x.place apart.0 (end_has es n x at) (ap (λ (f : PlaceEnd). f.place) is ∙ sym same))
ends_once (e ∷ es) apart (suc n) (suc m) x y at there same = ap suc (ends_once es apart.1 n m x y at there same)
