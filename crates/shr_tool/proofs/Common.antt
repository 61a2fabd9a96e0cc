-- SPDX-License-Identifier: GPL-2.0-only
-- The names that the proofs of this crate cite most, passed on from one place. Declares nothing.
pub use Rattle.std.proofs.Common.{Bool, List, None, Option, Some, [], ap, append_assoc, ap₂, arith, codes, cond, drop, eq-eqb, eqb, false, get_or, inl, inr, length, length-append, length-drop, map, ne_eqb, refl, subst, suc, sym, take, true, zero, ℕ, ⊎_elim, ◌%◌, ◌&&◌, ◌*◌, ◌++◌, ◌+◌, ◌-◌, ◌<◌, ◌==◌, ◌^◌, ◌∙◌, ◌∷◌, ◌≡◌, ◌≢◌, ◌≤◌, ◌⊎◌}
pub use Rattle.std.proofs.lemmas.List.{append-nil, drop_all, get_or-drop, take-append-drop, take_more}
pub use Rattle.std.proofs.lemmas.List.Folds.{list_all-append}
pub use Rattle.std.proofs.lemmas.Option.{none-some, same_Some, slice_get_within}
pub use Rattle.std.specs.Io.KnownBytes.{Consumes, IsAtEnd}
pub use Rattle.std.specs.List.{AllByRecursion, enumerate_from, range_with_len}
pub use Rattle.std.specs.Prelude.{Contains, decimal, filter_map, if◌then◌else◌, nat_lt, option_and_then, option_map, slice_get, slice_index_or, sum_by}
pub use Rattle.shr_base.specs.declared.places.Target.{Target}
pub use Rattle.shr_base.specs.declared.scripts.Act.TheVariants.{Get}
pub use Rattle.shr_base.specs.declared.scripts.Code.{Code}
pub use Rattle.shr_base.specs.declared.scripts.Command.{Command}
pub use Rattle.shr_base.specs.declared.scripts.Command.TheVariants.{Balance, Offline, On, Put, Shrink, Unregister}
pub use Rattle.shr_base.specs.declared.scripts.Script.{Script}
pub use Rattle.shr_gen.specs.Generated.{MayBeGenerated, chosen_by, generated_command, commands_from, drawn_after, generated, group_at, worker_group, is_offline, key_text, node_by, priority_by, target_by, value_text}
pub use Rattle.shr_model.specs.Pieces.{Parts, cut, differs}
pub use Rattle.shr_model.specs.PieceParts.{is_part_of}
pub use Rattle.shr_laws.specs.Parts.{answer_at, answers_in, answers_of, commands_in, commands_of, decls_on, id_found, journals_of, later_of, limit_of, parents_of}
pub use Rattle.shr_script.specs.Content.{Content, IsValid, content_of, spell}
pub use Rattle.shr_script.specs.Faults.{IsFault}
pub use Rattle.shr_tool.specs.Audit.{AreOtherLines, AuditGives, HasEndLine, HasNoEnd, HasVerdict, IsBad, IsJudged, IsJudging, IsOtherLine, IsSplit, IsVerdictOf, IsInputWhole, JudgeGives, status_of, with_feeds}
pub use Rattle.shr_tool.specs.Top.{AnswerGives, IsComplete, IsRefusing, RefusalGives, RunGives, refusal, refusal_text}
pub use Rattle.shr_tool.specs.Done.{SinkSeen, SourceSeen}
pub use Rattle.shr_tool.specs.Traced.{TracedAnswer, TracedGives}
pub use Rattle.shr_tool.specs.declared.status.Status.{Status}
pub use Rattle.shr_tool.specs.declared.status.Status.TheVariants.{Done, Memory, ReadFault, Refused, TooLong, Unlawful, Usage, WriteFault}
