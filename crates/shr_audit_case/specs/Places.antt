-- SPDX-License-Identifier: GPL-2.0-only
-- The lists of a report by their places.
use Rattle.std.specs.Prelude.{◌≡◌, ◌≢◌, ℕ, ◌<◌, Bool, ◌&&◌, ◌||◌, ◌==◌, nat_lt, List, length, find, slice_get, Option, Some}
use Rattle.std.specs.List.{AllAdjacentBelow}
use Rattle.shr_base.specs.declared.places.Place.{Place}
use Rattle.shr_base.specs.declared.ends.PlaceEnd.{PlaceEnd}
use Rattle.shr_model.specs.Places.{is_place}
use Rattle.shr_laws.specs.WellFormed.{IsPlaceUpTo}

-- lists stand by place, as in a well formed report
abbrev pub AreInOrder : List PlaceEnd → Type 0
AreInOrder ends = AllAdjacentBelow (λ (d e : PlaceEnd). IsPlaceUpTo d.place e.place) ends (length ends)

-- a place stands before another
abbrev pub comes_before : Place → Place → Bool
comes_before p q = nat_lt p.id q.id || ((p.id == q.id) && (nat_lt p.node q.node || ((p.node == q.node) && nat_lt p.group q.group)))

-- the list that is printed for a place, the first one where there are more
abbrev pub end_printed : List PlaceEnd → Place → Option PlaceEnd
end_printed ends place = find (λ (end : PlaceEnd). is_place end.place place) ends

-- the place is printed nowhere before this index
abbrev pub IsFirst : List PlaceEnd → ℕ → Place → Type 0
IsFirst ends k place = (m : ℕ) (x : PlaceEnd) → m < k → slice_get ends m ≡ Some x → x.place ≢ place

-- the list that is printed for a place has this index
pub record IsIndexOf (ends : List PlaceEnd) (place : Place) (k : ℕ) : Type 0 where
  pub within : k < length ends
  pub at : slice_get ends k ≡ end_printed ends place
  pub first : IsFirst ends k place
