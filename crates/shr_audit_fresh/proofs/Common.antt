-- SPDX-License-Identifier: GPL-2.0-only
-- The names that the proofs of this crate cite most, passed on from one place. Declares nothing.
pub use Rattle.std.proofs.Common.{Bool, List, None, Option, Some, [], ap, arith, cond, drop, false, get_or, inl, inr, length, refl, set, slice_get, subst, suc, sym, take, true, zero, ℕ, ◌++◌, ◌+◌, ◌<◌, ◌∙◌, ◌∷◌, ◌≡◌, ◌≤◌, ◌⊎◌}
pub use Rattle.std.proofs.lemmas.Bool.{cases_lt, eq-eqb, ne_eqb}
pub use Rattle.std.proofs.lemmas.Bool.Decides.{nat_tests}
pub use Rattle.std.proofs.lemmas.List.{append-nil, append_assoc, get_or-set_other, get_or-set_same, get_or_default, length-set, take-append-drop, take_all, take_more}
pub use Rattle.std.proofs.lemmas.List.Concat.{flat_map-append}
pub use Rattle.std.proofs.lemmas.List.Folds.{list_any-append}
pub use Rattle.std.proofs.lemmas.Option.{slice_get_cases, slice_get_past, slice_get_within}
pub use Rattle.std.specs.Bool.{Decides}
pub use Rattle.std.specs.HashMap.{get}
pub use Rattle.std.specs.List.{AllByRecursion, list_any}
pub use Rattle.std.specs.Option.{IsSomeAnd}
pub use Rattle.std.specs.Prelude.{filter, flat_map, nat_eq, nat_le, nat_lt, not, option_and_then, option_map, option_to_list, ◌&&◌, ◌==◌, ◌||◌, ◌↔◌}
pub use Rattle.shr_audit_reasons.specs.Cites.{AreCited, AnswerCites, TellsCited, cited_in}
pub use Rattle.shr_audit_reasons.specs.declared.cites.Cited.{Cited}
pub use Rattle.shr_audit_reasons.specs.declared.cites.Cited.TheVariants.{Never, Often, Once}
pub use Rattle.shr_base.specs.declared.journals.TreeEntry.{TreeEntry}
pub use Rattle.shr_base.specs.declared.places.Serial.{Serial}
pub use Rattle.shr_base.specs.declared.replies.Answered.{Answered}
pub use Rattle.shr_base.specs.declared.replies.Reply.{Reply}
pub use Rattle.shr_base.specs.declared.scripts.Script.{Script}
pub use Rattle.shr_base.specs.Walks.{WalkRecord}
pub use Rattle.std.proofs.lemmas.Bool.{or_left, or_right}
pub use Rattle.shr_audit_formed.proofs.Eachs.{fails}
pub use Rattle.shr_audit_formed.specs.Each.{EachItem}
pub use Rattle.shr_model.proofs.Lists.{all_both, some_injective, some_same, zero_more}
pub use Rattle.shr_model.specs.Commands.{asks_online, is_serial}
pub use Rattle.shr_model.specs.TreeJournal.{is_begin, is_done}
pub use Rattle.shr_report.proofs.Reading.{either}
pub use Rattle.shr_laws.specs.Freshness.{AreBelow, IsFresh, MayBeOffline, asks_made, is_begin_at, is_done_at, is_past_group, made_shown, of_answer, pool_made, pool_seen, pool_told, shown_by, shows_begin, shows_made, shows_offline, tree_cited, tree_seen, walk_cited}
pub use Rattle.shr_laws.specs.Parts.{answer_at, answers_in, answers_of, command_at, commands_of, decls_on, reply_at, serial_of, walks_in, walks_of}
pub use Rattle.shr_laws.specs.WellFormed.{AreNotFalling, IsTreeNumbered}
pub use Rattle.shr_laws.specs.declared.report.Report.{Report}
pub use Rattle.shr_audit_fresh.specs.Firsts.{AreLeastOfGroups, FirstCommands, HasNoFirsts, IsLeast, NotesFirst, first_with, is_group, shows_in}
pub use Rattle.shr_audit_fresh.specs.Floors.{AreFloors, AreKnownBelow, FloorWith, IsFloor, IsFloorBefore, IsHigher, Reaches, walks_cite}
pub use Rattle.shr_audit_fresh.specs.Rising.{After, NeverFallsFrom}
pub use Rattle.shr_audit_fresh.specs.Started.{AreAnswersStarted, IsEntryStarted, IsWalkStarted, may_show}
pub use Rattle.shr_audit_fresh.specs.Worker.{AreNumbersFresh, IsBeginStarted, IsOnSeen, IsOnSeenAt, IsOwnBelow, IsRefusedAt, IsWorkerFresh, MayShow, ShownByWalks, ShownOffline, StaysMadeAt, is_first_before, makes, unmade}
