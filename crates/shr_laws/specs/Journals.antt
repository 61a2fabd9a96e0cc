-- SPDX-License-Identifier: GPL-2.0-only
-- Journals: each is legal, they fit together, and what they leave is printed.
use Rattle.std.specs.Prelude.{◌≡◌, ℕ, true, slice_get, Some, Contains}
use Rattle.shr_base.specs.declared.places.Place.{Place}
use Rattle.shr_base.specs.declared.journals.TreeEntry.TheVariants.{Begin, Done}
use Rattle.shr_base.specs.declared.ends.PlaceEnd.{PlaceEnd}
use Rattle.shr_base.specs.declared.scripts.Script.{Script}
use Rattle.shr_model.specs.Groups.{IsAtOrAbove}
use Rattle.shr_model.specs.Items.{is_closed}
use Rattle.shr_model.specs.Families.{IsLegal, IsPaired}
use Rattle.shr_laws.specs.declared.report.Report.{Report}
use Rattle.shr_laws.specs.Parts.{parents_of, journals_of, items_left, IsThere}

-- the journals are legal for the script, fit together, and leave the items that are printed
pub record AreJournalsLawful (s : Script) (r : Report) : Type 0 where
  -- each printed place is one of the script
  pub there : (n : ℕ) (end : PlaceEnd) → slice_get r.places.items n ≡ Some end → IsThere s end.place
  -- each journal is legal, and they fit together
  pub legal : (place : Place) → IsLegal (parents_of s) (journals_of r) place
  pub paired : IsPaired (parents_of s) (journals_of r)
  -- no place is printed twice, and the items that are printed are those that the journal leaves
  pub once : (n m : ℕ) (x y : PlaceEnd) → slice_get r.places.items n ≡ Some x → slice_get r.places.items m ≡ Some y → x.place ≡ y.place → n ≡ m
  pub items : (n : ℕ) (end : PlaceEnd) → slice_get r.places.items n ≡ Some end → end.items.items ≡ items_left s r end.place
  -- a list is closed only where a group at or above its own began to go offline, and each list of a
  -- group that is done is
  pub begun : (place : Place) → is_closed (journals_of r place) ≡ true → (g : ℕ) × IsAtOrAbove (parents_of s) g place.group × Contains r.tree.items (Begin g)
  pub done : (place : Place) → IsThere s place → Contains r.tree.items (Done place.group) → is_closed (journals_of r place) ≡ true
