-- SPDX-License-Identifier: GPL-2.0-only
-- The names that the proofs of this crate cite most, passed on from one place. Declares nothing.
pub use Rattle.std.proofs.Common.{Bool, IfOk, List, None, Option, Some, Vec, [], ap, arith, cond, drop, false, filter, flat_map, get_or, inl, inr, length, map, refl, rules, slice_get, subst, suc, sym, take, true, vec_len, zero, ℕ, ◌*◌, ◌++◌, ◌+◌, ◌-◌, ◌<◌, ◌^◌, ◌∙◌, ◌∷◌, ◌≡◌, ◌≤◌, ◌⊎◌}
pub use Rattle.std.proofs.lemmas.Bool.{and_from, and_parts, cases_Bool, eq-eqb, eqb-true, ne_eqb}
pub use Rattle.std.proofs.lemmas.Bool.Decides.{nat_tests}
pub use Rattle.std.proofs.lemmas.List.{append-nil, append_assoc, length-append, length-drop, length-map, map-append, take-append-drop, take_all, take_more}
pub use Rattle.std.proofs.lemmas.List.Concat.{flat_map-append}
pub use Rattle.std.proofs.lemmas.List.Elements.{All-from_recursion, filter-append}
pub use Rattle.std.proofs.lemmas.List.Sorted.{All-permutation, IsNonDecreasingBy-from_sort, IsPartitionPoint-from_clause, IsPartitionedBy-leb, IsPartitionedBy-ltb, answers_always, sum_by-IsPermutation}
pub use Rattle.std.proofs.lemmas.List.Sums.{sum_by-cons}
pub use Rattle.std.proofs.lemmas.Option.{get_or_from_slice_get, slice_get-get_or, slice_get-map, slice_get_within}
pub use Rattle.std.specs.Bool.{Decides}
pub use Rattle.std.specs.List.{AllByRecursion, range_with_len}
pub use Rattle.std.specs.Prelude.{count_by, nat_le, nat_lt, not, option_and_then, option_map, sum_by, ◌&&◌, ◌==◌, ◌||◌, ◌↔◌}
pub use Rattle.std.specs.declared.alloc.Global.{Global}
pub use Rattle.shr_audit_passes.proofs.Answered.{here_at, same_test, stands_here, walks_are}
pub use Rattle.shr_base.specs.declared.ends.WorkerPart.{WorkerPart}
pub use Rattle.shr_base.specs.declared.journals.UseStep.{UseStep}
pub use Rattle.shr_base.specs.declared.places.Serial.{Serial}
pub use Rattle.shr_base.specs.declared.replies.Answered.{Answered}
pub use Rattle.shr_base.specs.declared.replies.Reply.{Reply}
pub use Rattle.shr_base.specs.declared.scripts.Command.{Command}
pub use Rattle.shr_base.specs.declared.scripts.Script.{Script}
pub use Rattle.shr_base.specs.Walks.{WalkRecord}
pub use Rattle.shr_audit_formed.proofs.Eachs.{all_at, all_of, clash, more_at}
pub use Rattle.shr_model.proofs.GroupsLaws.{child_again, child_higher, child_takes, path_of-below, path_of-root, preorder_of-group, subtrees_of}
pub use Rattle.shr_model.specs.Charges.{is_by, is_refused, ops_by}
pub use Rattle.shr_model.specs.Groups.{IsAtOrAbove, is_child, parent_of, preorder_of}
pub use Rattle.shr_model.specs.Trees.{IsTree}
pub use Rattle.shr_model.specs.Walks.{Job, job, job_of}
pub use Rattle.shr_laws.specs.Parts.{EachAnswer, commands_of, limit_of, limits_of, parents_of, serial_of, uses_at, walks_by}
pub use Rattle.shr_laws.specs.WalksLawful.{AreRoundsOfPut, AreWalksOf, MayMake, over_at}
pub use Rattle.shr_laws.specs.declared.report.Report.{Report}
pub use Rattle.shr_audit_walks.specs.Commands.{AreDues, IsAnswerMade, IsCommandMade, IsPartMade, is_whole, over_of}
pub use Rattle.shr_audit_walks.specs.Orders.{AreOrdersFrom}
pub use Rattle.shr_audit_walks.specs.Refusals.{AreRefusals, StandByKey, refused_groups, as_refusal, refusals_in, refusals_with, refusal_key}
pub use Rattle.shr_audit_walks.specs.Rounds.{AreAlike, AreDue, FitsRounds, IsPutMade, IsWithout, TakesOut, named, times_over}
pub use Rattle.shr_audit_walks.specs.RoundRows.{BeginsAsDue, IsBehind, IsMadeAsDue, IsNotBegun, job_with, jobs_made, jobs_over, round_control, round_over}
pub use Rattle.shr_audit_walks.specs.declared.commands.Dues.{Dues}
pub use Rattle.shr_audit_walks.specs.declared.refusals.Refusal.{Refusal}
pub use Rattle.shr_model.proofs.Lists.{some_injective}
