-- SPDX-License-Identifier: GPL-2.0-only
-- Entries that may stand where they do.
use Rattle.std.specs.Prelude.{◌≡◌, ℕ, ◌<◌, Bool, false, List, length, take, slice_get, slice_index_or, Some, Contains}
use Rattle.std.specs.Bool.{Decides}
use Rattle.shr_base.specs.declared.places.Place.{Place}
use Rattle.shr_base.specs.declared.journals.Entry.{Entry}
use Rattle.shr_model.specs.Groups.{parent_of}
use Rattle.shr_model.specs.Families.{MayStand, moved_in}
use Rattle.shr_laws.specs.declared.report.Report.{Report}
use Rattle.shr_laws.specs.Parts.{journals_of}

-- of each of the first groups it is told whether its list was moved in
abbrev pub AreMovesTold : List Entry → List Bool → Type 0
AreMovesTold before moved = (g : ℕ) → g < length moved → Decides (slice_index_or moved g false) (Contains (moved_in before) g)

-- if a group is a child of this one, its list was moved in
abbrev pub IsMovedChild : List ℕ → ℕ → List Entry → ℕ → Type 0
IsMovedChild parents group before child = parent_of parents child ≡ group → Contains (moved_in before) child

-- each entry of a journal of this group may stand where it does
abbrev pub AreStanding : List ℕ → ℕ → List Entry → Type 0
AreStanding parents group entries = (n : ℕ) (e : Entry) → slice_get entries n ≡ Some e → MayStand parents group (take n entries) e

-- the entries of a place do, and there are some only at a group of the tree
pub record IsPlaceStanding (parents : List ℕ) (r : Report) (place : Place) : Type 0 where
  pub there : 0 < length (journals_of r place) → place.group < length parents
  pub stands : AreStanding parents place.group (journals_of r place)
