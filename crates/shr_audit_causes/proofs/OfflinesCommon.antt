-- SPDX-License-Identifier: GPL-2.0-only
-- The names that the proofs of this crate cite most, passed on from one place. Declares nothing.
pub use Rattle.std.proofs.Common.{Bool, List, None, Option, Some, [], ap, arith, cond, eq-eqb, false, filter, get_or, get_or-set_other, get_or-set_same, inl, inr, length, length-append, length-set, map, ne_eqb, refl, replicate, set, subst, suc, sym, take, true, zero, ℕ, ◌%◌, ◌*◌, ◌++◌, ◌+◌, ◌-◌, ◌/◌, ◌<◌, ◌^◌, ◌∙◌, ◌∷◌, ◌≡◌, ◌≢◌, ◌≤◌, ◌⊎◌}
pub use Rattle.std.proofs.lemmas.Bool.{cases_lt}
pub use Rattle.std.proofs.lemmas.List.{get_or-map, get_or-replicate, get_or_append_left, get_or_default, get_or_past, get_or_push, length-map, length-replicate, take_all, take_more}
pub use Rattle.std.proofs.lemmas.List.Sums.{sum_by-append, sum_by-cons, sum_by_more}
pub use Rattle.std.proofs.lemmas.Option.{slice_get-get_or, slice_get_cases, slice_get_past, slice_get_within}
pub use Rattle.std.specs.Bool.{Decides}
pub use Rattle.std.specs.Option.{IsSomeAnd}
pub use Rattle.std.specs.Prelude.{min, not, option_map, slice_get, sum_by, ◌&&◌, ◌==◌, ◌↔◌}
pub use Rattle.shr_audit_reasons.specs.Cites.{AreCited, AnswerCites, TellsCited, cited_in}
pub use Rattle.shr_audit_reasons.specs.declared.cites.Cited.{Cited}
pub use Rattle.shr_audit_reasons.specs.declared.cites.Cited.TheVariants.{Never, Often, Once}
pub use Rattle.shr_audit_case.proofs.Upto.{upto_all, upto_fails, upto_more}
pub use Rattle.shr_base.specs.declared.ends.PlaceEnd.{PlaceEnd}
pub use Rattle.shr_base.specs.declared.ends.WorkerPart.{WorkerPart}
pub use Rattle.shr_base.specs.declared.journals.Entry.{Entry}
pub use Rattle.shr_base.specs.declared.places.Serial.{Serial}
pub use Rattle.shr_base.specs.declared.replies.Answered.{Answered}
pub use Rattle.shr_base.specs.declared.replies.Reply.{Reply}
pub use Rattle.shr_base.specs.declared.scripts.Command.{Command}
pub use Rattle.shr_base.specs.declared.scripts.GroupDecl.{GroupDecl}
pub use Rattle.shr_base.specs.declared.scripts.Script.{Script}
pub use Rattle.shr_base.specs.declared.walks.Carry.{Carry}
pub use Rattle.shr_model.proofs.GroupsOrder.{IsAtOrAbove-le, IsAtOrAbove-refl}
pub use Rattle.shr_model.specs.Trees.{IsTree}
pub use Rattle.shr_model.specs.Groups.{parent_of}
pub use Rattle.shr_laws.specs.Causes.{IsAloneAt, IsOffline, IsOfflineDone, MayHaveBegun, MayHaveSpliced, StandsInTree, objects_moved_from, moved_of}
pub use Rattle.shr_laws.specs.Parts.{EachAnswer, answer_at, answers_in, answers_of, carries_of, command_at, journals_of, parents_of, reply_at, serial_of}
pub use Rattle.shr_laws.specs.declared.report.Report.{Report}
pub use Rattle.shr_audit_causes.specs.Above.{AreAbove, BeganAbove, BeganAt, IsWhose, either, is_only, whose_of}
pub use Rattle.shr_audit_causes.specs.Carried.{HasCarriedSums, IsCarriedOf, carried_by}
pub use Rattle.shr_audit_causes.specs.Moved.{AreMoved, AreCappedSums}
pub use Rattle.shr_audit_causes.specs.OfflineRows.{AreOfflineNotes, HasOfflineCause, IsSoleSplicer, IsCarriedSo, IsOfflineCausedAt, IsMoveRight, IsMovedSo}
pub use Rattle.shr_audit_causes.specs.Spliced.{AddsSpliced, AreOnlySpliced, HasSplicedGroups, HasSpliced, IsIn, with_spliced_group}
pub use Rattle.shr_audit_causes.specs.declared.above.Whose.{Whose}
pub use Rattle.shr_audit_causes.specs.declared.above.Whose.TheVariants.{Nobody, One, Several}
pub use mathlib.Core.Logic.{dite}
pub use native.Mathlib.Decide.{ℕ_discrete}
pub use Rattle.shr_model.proofs.Lists.{some_injective}
