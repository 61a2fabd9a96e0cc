-- SPDX-License-Identifier: GPL-2.0-only
-- Lists that are closed, and the groups that began to go offline.
use Rattle.std.specs.Prelude.{◌≡◌, ℕ, ◌<◌, Bool, true, false, List, length, slice_get, slice_index_or, Some, Contains}
use Rattle.std.specs.Bool.{Decides}
use Rattle.shr_base.specs.declared.places.Place.{Place}
use Rattle.shr_base.specs.declared.journals.TreeEntry.{TreeEntry}
use Rattle.shr_base.specs.declared.journals.TreeEntry.TheVariants.{Begin}
use Rattle.shr_base.specs.declared.ends.PlaceEnd.{PlaceEnd}
use Rattle.shr_model.specs.Groups.{IsAtOrAbove}
use Rattle.shr_model.specs.Items.{is_closed}
use Rattle.shr_laws.specs.declared.report.Report.{Report}
use Rattle.shr_laws.specs.Parts.{journals_of}

-- a group at or above this one began to go offline
abbrev pub HasBegunAbove : List ℕ → List TreeEntry → ℕ → Type 0
HasBegunAbove parents tree group = (g : ℕ) × IsAtOrAbove parents g group × Contains tree (Begin g)

-- a place whose list is closed is of such a group
abbrev pub IsBegunIfClosed : List ℕ → Report → Place → Type 0
IsBegunIfClosed parents r place = is_closed (journals_of r place) ≡ true → HasBegunAbove parents r.tree.items place.group

-- each place is
abbrev pub AreBegunIfClosed : List ℕ → Report → Type 0
AreBegunIfClosed parents r = (place : Place) → IsBegunIfClosed parents r place

-- of each of the first groups it is told whether it is such a group
abbrev pub AreBegun : List ℕ → List TreeEntry → List Bool → Type 0
AreBegun parents tree begun = (g : ℕ) → g < length begun → Decides (slice_index_or begun g false) (HasBegunAbove parents tree g)

-- lists are of one of so many groups
abbrev pub HaveGroups : ℕ → List PlaceEnd → Type 0
HaveGroups count ends = (n : ℕ) (end : PlaceEnd) → slice_get ends n ≡ Some end → end.place.group < count
