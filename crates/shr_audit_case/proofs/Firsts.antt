-- SPDX-License-Identifier: GPL-2.0-only
-- The list that is printed for a place, and the first one.
use Rattle.shr_audit_case.proofs.Common.{◌≡◌, ◌≢◌, ℕ, zero, suc, ◌<◌, true, false, List, [], ◌∷◌, length, get_or, Some, None, refl, sym, ap, ◌∙◌, ◌⊎◌, inl, inr, arith, slice_get, cases_Bool, get_or_from_slice_get, slice_get-get_or, slice_get_within, Place, PlaceEnd, IsFirst, IsIndexOf, end_printed}
use Rattle.shr_model.specs.Places.{is_place}
use Rattle.shr_model.proofs.PlacesLaws.{is_place_same, is_place_itself}
use Rattle.shr_model.proofs.Lists.{some_injective}

-- a list is printed for a place, and this is the first one
pub record IsFound (ends : List PlaceEnd) (place : Place) (k : ℕ) (end : PlaceEnd) : Type 0 where
  pub at : slice_get ends k ≡ Some end
  pub same : end.place ≡ place
  pub first : IsFirst ends k place
  pub found : end_printed ends place ≡ Some end

pub none_first : (ends : List PlaceEnd) (place : Place) → IsFirst ends 0 place
none_first ends place m x lt = absurd (omega (arith, lt))

-- the first list that is printed for a place is found there
pub first_found : (ends : List PlaceEnd) (place : Place) (k : ℕ) (end : PlaceEnd) → slice_get ends k ≡ Some end → end.place ≡ place → IsFirst ends k place → end_printed ends place ≡ Some end
first_found [] place k end at same first = let lt = slice_get_within [] k end at in absurd (omega (arith, lt))
first_found (e ∷ es) place zero end at same first =
    let here : e.place ≡ place = ap (λ (x : PlaceEnd). x.place) (some_injective e end at) ∙ same in
    let own : is_place e.place place ≡ true = ap (λ (q : Place). is_place e.place q) (sym here) ∙ is_place_itself e.place in
    rw own at
first_found (e ∷ es) place (suc k) end at same first = elim (cases_Bool (is_place e.place place)) [
  | inl own ↦ absurd (first 0 e (omega arith) refl (is_place_same e.place place own))
  | inr other ↦ rw other (first_found es place k end at same (λ m x lt here. first (suc m) x (omega (arith, lt)) here))
]

-- a place is printed nowhere, or there is a first list for it
pub found_or_none : (ends : List PlaceEnd) (place : Place) → (end_printed ends place ≡ None) ⊎ ((k : ℕ) × ((end : PlaceEnd) × IsFound ends place k end))
found_or_none [] place = inl refl
found_or_none (e ∷ es) place = elim (cases_Bool (is_place e.place place)) [
  | inl own ↦ inr (0, (e, record { at = refl; same = is_place_same e.place place own; first = none_first (e ∷ es) place; found = rw own refl }))
  | inr other ↦ elim (found_or_none es place) [
    | inl none ↦ inl (rw other none)
    | inr later ↦ inr (
      suc later.0,
      (
        later.1.0,
        record {
          at = later.1.1.at;
          same = later.1.1.same;
          first = not_before other later.0 later.1.1.first;
          found = rw other later.1.1.found;
        },
      ),
    )
  ]
] where
  not_before : is_place e.place place ≡ false → (k : ℕ) → IsFirst es k place → IsFirst (e ∷ es) (suc k) place
  not_before other k first zero x lt at = λ same.
      let own : is_place e.place place ≡ true = ap (λ (q : Place). is_place e.place q) (sym (ap (λ (y : PlaceEnd). y.place) (some_injective e x at) ∙ same)) ∙ is_place_itself e.place in cc
  not_before other k first (suc m) x lt at = first m x (omega (arith, lt)) at

-- a place that no list is printed for
pub none_found : (ends : List PlaceEnd) (place : Place) → ((n : ℕ) (x : PlaceEnd) → slice_get ends n ≡ Some x → x.place ≢ place) → end_printed ends place ≡ None
none_found ends place other = elim (found_or_none ends place) [
  | inl none ↦ none
  | inr found ↦ absurd (other found.0 found.1.0 found.1.1.at found.1.1.same)
]

-- it is the one of its place, if it is of the place and each before stands before that
pub index_here : (ends : List PlaceEnd) (place : Place) (k : ℕ) (x : PlaceEnd) → k < length ends → is_place (get_or ends k x).place place ≡ true → IsFirst ends k place → IsIndexOf ends place k
index_here ends place k x lt same first = record {
  within = lt;
  at = slice_get-get_or ends k x lt ∙ sym (first_found ends place k (get_or ends k x) (slice_get-get_or ends k x lt) (is_place_same (get_or ends k x).place place same) first);
  first = first;
}

-- it is of another place
pub other_here : (ends : List PlaceEnd) (place : Place) (k : ℕ) (d x : PlaceEnd) → is_place (get_or ends k d).place place ≡ false → slice_get ends k ≡ Some x → x.place ≢ place
other_here ends place k d x other at same =
    let here : is_place (get_or ends k d).place place ≡ true = ap (λ (e : PlaceEnd). is_place e.place place) (get_or_from_slice_get ends k x d at) ∙ (ap (λ (q : Place). is_place q place) same ∙ is_place_itself place) in cc
