-- SPDX-License-Identifier: GPL-2.0-only
-- The names that the proofs of this crate cite most, passed on from one place. Declares nothing.
pub use Rattle.std.proofs.Common.{Bool, List, None, Option, Some, [], ap, arith, below_more, drop, false, get_or, inl, inr, length, length-append, refl, set, subst, suc, sym, take, true, zero, ℕ, ◌++◌, ◌+◌, ◌<◌, ◌∙◌, ◌∷◌, ◌≡◌, ◌≢◌, ◌≤◌, ◌⊎◌}
pub use Rattle.std.proofs.Math.Seq.{get_or-append_seam}
pub use Rattle.std.proofs.lemmas.Bool.{cases_order, eq-eqb, eqb-true}
pub use Rattle.std.proofs.lemmas.List.{get_or-set_other, get_or-set_same, get_or_append_left, length-map, length-set, take_more}
pub use Rattle.std.proofs.lemmas.Option.{get_or_from_slice_get, slice_get_cases, slice_get_within}
pub use Rattle.std.specs.Bool.{Decides}
pub use Rattle.std.specs.List.{list_any}
pub use Rattle.std.specs.Prelude.{Contains, codes, not, slice_get, slice_index_or, ◌==◌, ◌||◌, ◌↔◌}
pub use Rattle.shr_base.specs.declared.ends.PlaceEnd.{PlaceEnd}
pub use Rattle.shr_base.specs.declared.journals.Entry.{Entry}
pub use Rattle.shr_base.specs.declared.journals.Entry.TheVariants.{Add, Closed, Drained, Drop, Look, MovedIn, Pin, Scan}
pub use Rattle.shr_base.specs.declared.journals.TreeEntry.{TreeEntry}
pub use Rattle.shr_base.specs.declared.journals.TreeEntry.TheVariants.{Begin, Done}
pub use Rattle.shr_base.specs.declared.places.Place.{Place}
pub use Rattle.shr_base.specs.declared.scripts.Script.{Script}
pub use Rattle.shr_audit_case.proofs.Eachs.{decides_iff}
pub use Rattle.shr_audit_case.proofs.Firsts.{IsFound, first_found, found_or_none}
pub use Rattle.shr_audit_case.specs.Each.{EachFirst}
pub use Rattle.shr_audit_case.specs.Places.{IsFirst}
pub use Rattle.shr_model.proofs.GroupsLaws.{child_again, child_higher, child_takes, path_of-below, path_of-root}
pub use Rattle.shr_model.proofs.Members.{Contains_from_Has, Has, Has_from_Contains}
pub use Rattle.shr_model.specs.Families.{AreChildrenMovedIn, IsAllowed, IsBornAt, IsPaired, IsPairedAt, MayStand, child_of, items_of, lists_moved_at, moved_in}
pub use Rattle.shr_model.specs.Groups.{IsAtOrAbove, is_child, parent_of, path_of}
pub use Rattle.shr_model.specs.Trees.{IsTree}
pub use Rattle.shr_model.specs.Items.{is_closed, is_closing}
pub use Rattle.shr_model.specs.Places.{at_group}
pub use Rattle.shr_laws.specs.Journals.{AreJournalsLawful}
pub use Rattle.shr_laws.specs.Parts.{IsThere, journal_of, journals_of, parents_of}
pub use Rattle.shr_laws.specs.declared.report.Report.{Report}
pub use Rattle.shr_audit_lists.specs.Begun.{AreBegun, AreBegunIfClosed, HaveGroups, HasBegunAbove, IsBegunIfClosed}
pub use Rattle.shr_audit_lists.specs.Fields.{AreDoneClosed, ArePrintedOnce, AreItemsLeft, AreOutcomesSo, ArePlacesOnce, ArePlacesThere, IsClosedAt, IsItemsLeft, IsOutcomeSo}
pub use Rattle.shr_audit_lists.specs.Paired.{AreChildrenPaired, IsOwnPaired, IsPairedAround, moves}
pub use Rattle.shr_audit_lists.specs.Standing.{AreMovesTold, AreStanding, IsMovedChild, IsPlaceStanding}
