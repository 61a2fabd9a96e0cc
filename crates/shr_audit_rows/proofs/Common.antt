-- SPDX-License-Identifier: GPL-2.0-only
-- The names that the proofs of this crate cite most, passed on from one place. Declares nothing.
pub use Rattle.std.proofs.Common.{Bool, List, None, Option, Some, [], add-one, ap, arith, below_more, cond, drop, eq-eqb, false, filter, get_or, get_or-set_other, get_or-set_same, inl, inr, length, length-append, length-set, map, min, ne_eqb, pos, refl, replicate, set, subst, suc, sym, take, true, zero, ℕ, ◌%◌, ◌++◌, ◌+◌, ◌-◌, ◌<◌, ◌∙◌, ◌∷◌, ◌≡◌, ◌≤◌, ◌⊎◌}
pub use Rattle.std.proofs.Math.Nat.{eq-or-lt_of_le}
pub use Rattle.std.proofs.lemmas.Bool.{and_from, and_parts, cases_Bool, cases_lt, eqb-true}
pub use Rattle.std.proofs.lemmas.Bool.Decides.{nat_tests}
pub use Rattle.std.proofs.lemmas.List.{append-nil, drop-append-le, get_or-replicate, get_or_default, length-replicate, length-take, take_all, take_more}
pub use Rattle.std.proofs.lemmas.List.Sums.{count_by-le-length, length-filter, sum_by-append, sum_by-cons}
pub use Rattle.std.proofs.lemmas.Option.{get_or_from_slice_get, slice_get-get_or, slice_get-map, slice_get_past, slice_get_within, unwrap_or-slice_get}
pub use Rattle.std.specs.Bool.{Decides}
pub use Rattle.std.specs.HashMap.{get}
pub use Rattle.std.specs.Option.{IsSomeAnd}
pub use Rattle.std.specs.Prelude.{IsPermutation, find, if◌then◌else◌, is_none, is_some, nat_eq, nat_le, nat_lt, not, option_and_then, option_map, option_to_list, slice_get, unwrap_or, ◌&&◌, ◌==◌, ◌||◌}
pub use Rattle.shr_audit_case.proofs.Upto.{upto_all, upto_fails, upto_more}
pub use Rattle.shr_base.specs.declared.ends.WorkerPart.{WorkerPart}
pub use Rattle.shr_base.specs.declared.journals.PoolEntry.{PoolEntry}
pub use Rattle.shr_base.specs.declared.journals.UseStep.{UseStep}
pub use Rattle.shr_base.specs.declared.places.Serial.{Serial}
pub use Rattle.shr_base.specs.declared.replies.Answered.{Answered}
pub use Rattle.shr_base.specs.declared.replies.Reply.{Reply}
pub use Rattle.shr_base.specs.declared.scripts.Command.{Command}
pub use Rattle.shr_base.specs.declared.scripts.GroupDecl.{GroupDecl}
pub use Rattle.shr_base.specs.declared.scripts.Script.{Script}
pub use Rattle.shr_audit_case.proofs.Eachs.{decides_iff}
pub use Rattle.shr_audit_formed.proofs.Eachs.{all_of, clash, each_all, each_in, each_more, fails}
pub use Rattle.shr_audit_formed.specs.Each.{EachItem}
pub use Rattle.shr_model.specs.Charges.{is_by, ops_by, ups}
pub use Rattle.shr_model.specs.Commands.{decl_named}
pub use Rattle.shr_model.specs.Pool.{decl_after, id_of, is_live_below, is_live_decl, lowest_idle}
pub use Rattle.shr_model.specs.TreeJournal.{done_of, is_done, is_made, is_making, is_undone_child, made_of, undone_child}
pub use Rattle.shr_laws.specs.Parts.{EachAnswer, EachAttempt, EachWalk, answer_at, answers_in, answers_of, command_at, commands_in, script_hierarchy, later_of, limit_of, parents_of, reply_at, serial_of, uses_at}
pub use Rattle.shr_laws.specs.declared.report.Report.{Report}
pub use Rattle.shr_audit_rows.specs.Asked.{AddsSo, AreAllSo, IsAskedSo, IsSaid, IsAskedRight, IsSoIfAsked, asked_at, asked_in}
pub use Rattle.shr_audit_rows.specs.Law.{AreEntriesCaused, AreWalksCaused}
pub use Rattle.shr_audit_rows.specs.Moments.{AreMoments, done_in, group_made_in, moment_noted}
pub use Rattle.shr_audit_rows.specs.Pooled.{IsBlankFor, Stands, is_free_in, is_live_in}
pub use Rattle.shr_audit_rows.specs.Rows.{AreFew, HasCauseButEnds, HasCountCause, HasStateCause, IsCausedAt}
pub use Rattle.shr_audit_rows.specs.Tried.{AreTries, IsTriedKeyed, IsLastNoted, IsTriedBy, TriedMap, TriesIn, step_key, last_with, tried_key, ups_with, tried_uses}
pub use Rattle.shr_audit_rows.specs.declared.asked.Asked.{Asked}
pub use Rattle.shr_audit_rows.specs.declared.tried.Tried.{Tried}
pub use mathlib.Core.Logic.{dite}
pub use native.Mathlib.Decide.{ℕ_discrete}
pub use Rattle.shr_model.proofs.Lists.{some_injective}
