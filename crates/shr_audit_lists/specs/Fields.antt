-- SPDX-License-Identifier: GPL-2.0-only
-- Fields of the law on journals, each by itself.
use Rattle.std.specs.Prelude.{◌≡◌, ℕ, true, List, [], slice_get, Some, Contains}
use Rattle.shr_base.specs.declared.places.Place.{Place}
use Rattle.shr_base.specs.declared.journals.TreeEntry.TheVariants.{Done}
use Rattle.shr_base.specs.declared.ends.PlaceEnd.{PlaceEnd}
use Rattle.shr_base.specs.declared.scripts.Script.{Script}
use Rattle.shr_model.specs.Items.{AreOutcomes, is_closed}
use Rattle.shr_model.specs.Families.{items_of, lists_moved_at}
use Rattle.shr_laws.specs.declared.report.Report.{Report}
use Rattle.shr_laws.specs.Parts.{IsThere, journals_of}
use Rattle.shr_audit_case.specs.Places.{IsFirst}

-- each printed place is one of the script
abbrev pub ArePlacesThere : Script → Report → Type 0
ArePlacesThere s r = (n : ℕ) (end : PlaceEnd) → slice_get r.places.items n ≡ Some end → IsThere s end.place

-- no place is printed twice
abbrev pub ArePlacesOnce : Report → Type 0
ArePlacesOnce r = (n m : ℕ) (x y : PlaceEnd) → slice_get r.places.items n ≡ Some x → slice_get r.places.items m ≡ Some y → x.place ≡ y.place → n ≡ m

-- the same, list by list
abbrev pub ArePrintedOnce : List PlaceEnd → Type 0
ArePrintedOnce ends = (k : ℕ) (end : PlaceEnd) → slice_get ends k ≡ Some end → IsFirst ends k end.place

-- each entry of a place says of its outcome what is so
abbrev pub IsOutcomeSo : List ℕ → Report → Place → Type 0
IsOutcomeSo parents r place = AreOutcomes (lists_moved_at parents (journals_of r) place) [] (journals_of r place)

-- of each place
abbrev pub AreOutcomesSo : List ℕ → Report → Type 0
AreOutcomesSo parents r = (place : Place) → IsOutcomeSo parents r place

-- the objects of a list that are printed are those that the journal of its place leaves
abbrev pub IsItemsLeft : List ℕ → Report → PlaceEnd → Type 0
IsItemsLeft parents r end = end.items.items ≡ items_of parents (journals_of r) end.place

-- those of each list
abbrev pub AreItemsLeft : List ℕ → Report → Type 0
AreItemsLeft parents r = (n : ℕ) (end : PlaceEnd) → slice_get r.places.items n ≡ Some end → IsItemsLeft parents r end

-- the list of an id, a node and a group is closed
abbrev pub IsClosedAt : Report → ℕ → ℕ → ℕ → Type 0
IsClosedAt r id node group = is_closed (journals_of r (record { id = id; node = node; group = group })) ≡ true

-- each list of a group that is done is closed
abbrev pub AreDoneClosed : Script → Report → Type 0
AreDoneClosed s r = (place : Place) → IsThere s place → Contains r.tree.items (Done place.group) → is_closed (journals_of r place) ≡ true
