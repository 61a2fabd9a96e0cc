-- SPDX-License-Identifier: GPL-2.0-only
-- The names that the proofs of this crate cite most, passed on from one place. Declares nothing.
pub use Rattle.std.proofs.Common.{Bool, List, [], ap, arith, false, length, length-append, map, refl, subst, sym, take, true, ℕ, ◌++◌, ◌+◌, ◌-◌, ◌∙◌, ◌∷◌, ◌≡◌}
pub use Rattle.std.specs.Prelude.{IsPermutation, flat_map}
pub use Rattle.shr_base.specs.declared.ends.PlaceEnd.{PlaceEnd}
pub use Rattle.shr_base.specs.declared.journals.Entry.{Entry}
pub use Rattle.shr_base.specs.declared.places.Place.{Place}
pub use Rattle.shr_base.specs.declared.places.Serial.{Serial}
pub use Rattle.shr_model.proofs.Lists.{flat_all}
pub use Rattle.shr_model.specs.Bag.{AreDistinct, IsBag, added_by, added_by_all, added_in, freed_at, freed_in, listed_in, serials_of}
pub use Rattle.shr_model.specs.Families.{items_of}
pub use Rattle.shr_laws.specs.Parts.{journals_of, parents_of, places_of}
pub use Rattle.shr_audit_lists.specs.Gone.{IsGone, freed_serial, left_serial}
