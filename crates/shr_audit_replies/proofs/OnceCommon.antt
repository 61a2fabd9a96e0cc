-- SPDX-License-Identifier: GPL-2.0-only
-- The names that the proofs of this crate cite most, passed on from one place. Declares nothing.
pub use Rattle.std.proofs.Common.{Bool, List, None, Option, Some, [], ap, arith, false, get_or, inl, inr, length, refl, subst, suc, sym, true, zero, ℕ, ◌+◌, ◌-◌, ◌<◌, ◌∙◌, ◌∷◌, ◌≡◌, ◌≤◌}
pub use Rattle.std.specs.Bool.{Decides}
pub use Rattle.std.specs.Prelude.{not, option_and_then, option_map, slice_get}
pub use Rattle.shr_audit_case.proofs.Upto.{upto_all, upto_fails, upto_more}
pub use Rattle.shr_base.specs.declared.ends.PlaceEnd.{PlaceEnd}
pub use Rattle.shr_base.specs.declared.places.Place.{Place}
pub use Rattle.shr_audit_case.specs.Places.{AreInOrder, IsFirst, IsIndexOf, end_printed}
pub use Rattle.shr_audit_replies.specs.Once.{IsCitedOnceAt, IsPrintedOnce}
