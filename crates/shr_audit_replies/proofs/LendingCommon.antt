-- SPDX-License-Identifier: GPL-2.0-only
-- The names that the proofs of this crate cite most, passed on from one place. Declares nothing.
pub use Rattle.std.proofs.Common.{Bool, List, None, Option, Some, [], ap, arith, drop, false, get_or, inl, inr, length, refl, subst, sym, take, true, ℕ, ◌++◌, ◌+◌, ◌<◌, ◌∙◌, ◌∷◌, ◌≡◌}
pub use Rattle.std.proofs.lemmas.Option.{slice_get_read, slice_get_within}
pub use Rattle.std.specs.Bool.{Decides}
pub use Rattle.std.specs.Prelude.{codes, cond, option_map, slice_get, ◌==◌}
pub use Rattle.shr_base.specs.declared.ends.PlaceEnd.{PlaceEnd}
pub use Rattle.shr_base.specs.declared.journals.Entry.{Entry}
pub use Rattle.shr_base.specs.declared.journals.Entry.TheVariants.{Add, Closed, Drained, Drop, Look, MovedIn, Pin, Scan}
pub use Rattle.shr_base.specs.declared.objects.Object.{Object}
pub use Rattle.shr_base.specs.declared.places.Place.{Place}
pub use Rattle.shr_audit_case.specs.Each.{EachFirst}
pub use Rattle.shr_audit_case.specs.Places.{IsFirst}
pub use Rattle.shr_audit_formed.proofs.Eachs.{all_at, fails, more_at}
pub use Rattle.shr_model.specs.Families.{lists_moved_at}
pub use Rattle.shr_audit_case.specs.Journals.{values_from}
pub use Rattle.shr_audit_case.specs.Values.{value_met, values_noted}
pub use Rattle.shr_audit_case.specs.declared.values.FoundValue.{FoundValue}
pub use Rattle.shr_laws.specs.Parts.{answer_at, at, journal_of, journals_of, parents_of}
pub use Rattle.shr_laws.specs.declared.report.Report.{Report}
pub use Rattle.shr_audit_replies.specs.Lent.{AreAhead, AreMetLent, AreValuesLentAt, IsLent, IsLentTo, IsMetLent, IsValueLent, value_first, values_behind}
