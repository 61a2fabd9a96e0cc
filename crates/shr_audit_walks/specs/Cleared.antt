-- SPDX-License-Identifier: GPL-2.0-only
-- The places whose bits walks cleared, by their numbers. No public clause cites this.
use Rattle.std.specs.Prelude.{◌≡◌, ℕ, true, nat_eq, cond, List, [], ◌∷◌, ◌++◌, flat_map}
use Rattle.std.specs.declared.hash.FoldHasher.{FoldHasher}
use Rattle.std.specs.declared.hash.BuildHasherDefault.{BuildHasherDefault}
use Rattle.std.specs.HashSet.{HashSet, contains}
use Rattle.std.specs.List.{list_any}
use Rattle.shr_base.specs.declared.places.Place.{Place}
use Rattle.shr_base.specs.Walks.{Attempt, WalkRecord}
use Rattle.shr_model.specs.Attempts.{is_clearing}
use Rattle.shr_model.specs.Places.{is_place}
use Rattle.shr_model.specs.Walks.{clearings_of, place_in}
use Rattle.shr_laws.specs.declared.report.Report.{Report}
use Rattle.shr_laws.specs.Parts.{all_walks}
use Rattle.shr_audit_walks.specs.VersionTable.{fits, place_key}

-- a set of places by their numbers
abbrev pub PlaceSet : Type 0
PlaceSet = HashSet ℕ (BuildHasherDefault FoldHasher)

-- it has those of these places, and no other
abbrev pub HasPlaces : List Place → PlaceSet → Type 0
HasPlaces places t = (place : Place) → fits place ≡ true → contains nat_eq t (place_key place) ≡ list_any (is_place place) places

-- it has these places besides
abbrev pub Clears : PlaceSet → PlaceSet → List Place → Type 0
Clears old new added = (places : List Place) → HasPlaces places old → HasPlaces (places ++ added) new

-- the place whose bit an attempt of a walk cleared, if it did
abbrev pub cleared_by : WalkRecord → Attempt → List Place
cleared_by w a = cond (is_clearing a.outcome) (place_in w a.id ∷ []) []

-- it has those whose bits some walk of a report cleared
abbrev pub HasCleared : Report → PlaceSet → Type 0
HasCleared r t = HasPlaces (flat_map clearings_of (all_walks r)) t
