-- SPDX-License-Identifier: GPL-2.0-only
-- The names that the proofs of this crate cite most, passed on from one place. Declares nothing.
pub use Rattle.std.proofs.Common.{Bool, List, None, Option, Some, [], ap, arith, cond, eq-eqb, false, get_or, get_or-set_other, get_or-set_same, inl, inr, length, length-append, length-set, ne_eqb, refl, replicate, set, slice_get, subst, suc, sym, take, true, zero, ℕ, ◌++◌, ◌+◌, ◌-◌, ◌<◌, ◌∙◌, ◌∷◌, ◌≡◌, ◌≤◌, ◌⊎◌}
pub use Rattle.std.proofs.lemmas.Bool.{cases_lt}
pub use Rattle.std.proofs.lemmas.Bool.Decides.{nat_tests}
pub use Rattle.std.proofs.lemmas.List.{get_or-replicate, get_or_append_left, length-replicate, take_all, take_more}
pub use Rattle.std.proofs.lemmas.Option.{get_or_from_slice_get, slice_get-get_or, slice_get_cases, slice_get_past, slice_get_read, slice_get_within}
pub use Rattle.std.specs.Bool.{Decides}
pub use Rattle.std.specs.Option.{IsSomeAnd}
pub use Rattle.std.specs.Prelude.{count_by, filter_map, not, option_map, ◌==◌, ◌^◌, ◌||◌, ◌↔◌}
pub use Rattle.shr_base.specs.declared.ends.PlaceEnd.{PlaceEnd}
pub use Rattle.shr_base.specs.declared.ends.WorkerPart.{WorkerPart}
pub use Rattle.shr_base.specs.declared.journals.Entry.{Entry}
pub use Rattle.shr_base.specs.declared.journals.PoolEntry.{PoolEntry}
pub use Rattle.shr_base.specs.declared.journals.PoolEntry.TheVariants.{Idle, Registered, Unregistered}
pub use Rattle.shr_base.specs.declared.journals.TreeEntry.{TreeEntry}
pub use Rattle.shr_base.specs.declared.journals.TreeEntry.TheVariants.{Begin, Done, Made}
pub use Rattle.shr_base.specs.declared.places.Serial.{Serial}
pub use Rattle.shr_base.specs.declared.replies.Reply.{Reply}
pub use Rattle.shr_base.specs.declared.scripts.Script.{Script}
pub use Rattle.shr_base.specs.Walks.{WalkRecord}
pub use Rattle.shr_audit_case.proofs.Eachs.{decides_iff, each_entry_of, each_walk_of}
pub use Rattle.shr_audit_case.specs.Each.{EachFirst}
pub use Rattle.shr_audit_case.specs.Places.{IsFirst}
pub use Rattle.shr_audit_formed.proofs.Eachs.{all_at, fails, more_at}
pub use Rattle.shr_audit_formed.specs.Each.{EachItem}
pub use Rattle.shr_model.specs.Pool.{id_of, phase_of}
pub use Rattle.shr_laws.specs.Parts.{EachAttempt, EachWalk, answer_at, answers_in, answers_of, command_at, decls_on, reply_at, serial_of}
pub use Rattle.shr_laws.specs.WellFormed.{IsTreeNumbered}
pub use Rattle.shr_laws.specs.declared.report.Report.{Report}
pub use Rattle.shr_audit_reasons.specs.Behind.{AreBehind, HasBehinds, IsBehindOf, IsIdledBy, IsSecondOf}
pub use Rattle.shr_audit_reasons.specs.Cites.{AreCited, AreCitedBefore, AnswerCites, CitesNow, IsEarlier, IsFreedAt, IsNever, IsNextOf, IsEntryOfId, NotesAnswer, TellsCited, after_cited, cited_in, is_registered_by, is_unregistered_by, noted_at}
pub use Rattle.shr_audit_reasons.specs.Registrations.{AreMade, AreRegistrationsCaused, IsEntryCited}
pub use Rattle.shr_audit_reasons.specs.Trees.{AreBeginsCaused, AreDonesCaused, AreMadesCaused, IsBeginCited, IsDoneNotedOnce, IsMadeNotedOnce, is_cited, is_once}
pub use Rattle.shr_audit_reasons.specs.Walks.{CitesBegin, IsAttemptCaused, IsDrainedRightly, IsOutcomeCaused, IsWornRightly}
pub use Rattle.shr_audit_reasons.specs.declared.cites.Cited.{Cited}
pub use Rattle.shr_audit_reasons.specs.declared.cites.Cited.TheVariants.{Never, Often, Once}
