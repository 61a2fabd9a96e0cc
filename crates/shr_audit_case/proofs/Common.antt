-- SPDX-License-Identifier: GPL-2.0-only
-- The names that the proofs of this crate cite most, passed on from one place. Declares nothing.
pub use Rattle.std.proofs.Common.{Bool, List, None, Option, Some, [], ap, arith, cond, false, get_or, inl, inr, length, length-append, map, refl, rules, subst, suc, sym, take, true, zero, ℕ, ◌++◌, ◌+◌, ◌-◌, ◌<◌, ◌∙◌, ◌∷◌, ◌≡◌, ◌≢◌, ◌≤◌, ◌⊎◌}
pub use Rattle.std.proofs.lemmas.Bool.{and_from, and_parts, cases_Bool, cases_order, eq-eqb, eqb-true, lt-ltb, ltb-false, ltb-true}
pub use Rattle.std.proofs.lemmas.Option.{get_or_from_slice_get, slice_get-get_or, slice_get_within}
pub use Rattle.std.specs.Bool.{Decides}
pub use Rattle.std.specs.Prelude.{nat_lt, slice_get, slice_index, ◌&&◌, ◌==◌, ◌||◌}
pub use Rattle.shr_base.specs.declared.ends.PlaceEnd.{PlaceEnd}
pub use Rattle.shr_base.specs.declared.ends.WorkerPart.{WorkerPart}
pub use Rattle.shr_base.specs.declared.journals.Entry.{Entry}
pub use Rattle.shr_base.specs.declared.objects.Object.{Object}
pub use Rattle.shr_base.specs.declared.places.Place.{Place}
pub use Rattle.shr_audit_case.specs.Groups.{AreJournals, ArePrinted, AreReplayed, IsReplayedAt, printed_entries, printed_items}
pub use Rattle.shr_audit_case.specs.Journals.{IsReplayed}
pub use Rattle.shr_audit_case.specs.Tags.{tag_of}
pub use Rattle.shr_audit_case.specs.declared.journal.Replayed.{Replayed}
pub use Rattle.shr_laws.specs.Parts.{EachAnswer, EachEntry, EachWalk, answers_in, journal_of, journals_of, serial_of, walks_in}
pub use Rattle.shr_laws.specs.WellFormed.{IsBefore, IsPlaceBefore, IsPlaceUpTo}
pub use Rattle.shr_audit_case.specs.Each.{AnswersInParts, EachFirst, InParts}
pub use Rattle.shr_audit_case.specs.Lists.{AreReplays, IsReplayOfList, TellsReplayed, items_printed_in, journals_in}
pub use Rattle.shr_audit_case.specs.Places.{AreInOrder, IsFirst, IsIndexOf, comes_before, end_printed}
pub use Rattle.shr_audit_case.specs.Replaying.{AreFirsts, AreReplaysBefore, IsNewAt, AreReplaysAt, IsTakenOut, on_node}
