-- SPDX-License-Identifier: GPL-2.0-only
-- The names that the proofs of this crate cite most, passed on from one place. Declares nothing.
pub use Rattle.std.proofs.Common.{Bool, List, None, Option, Some, [], ap, append_assoc, arith, cond, drop, false, filter, flat_map, get_or, length, map, refl, rules, slice_get, subst, suc, sum_by, sym, take, true, zero, ℕ, ◌*◌, ◌++◌, ◌+◌, ◌-◌, ◌/◌, ◌<◌, ◌^◌, ◌∙◌, ◌∷◌, ◌≡◌, ◌≤◌}
pub use Rattle.std.proofs.lemmas.Bool.Decides.{nat_tests}
pub use Rattle.std.proofs.lemmas.Grind.{common_steps}
pub use Rattle.std.proofs.lemmas.List.{append-nil, get_or-map, length-append, length-map, length-replicate, map-append, map_more, take-map, take-replicate}
pub use Rattle.std.proofs.lemmas.List.Sorted.{IsNonDecreasingBy-from_all_adjacent, IsPartitionPoint-from_clause}
pub use Rattle.std.proofs.lemmas.List.Sums.{sum_by-cons}
pub use Rattle.std.proofs.lemmas.Option.{get_or_from_slice_get, slice_get-get_or, slice_get_within}
pub use Rattle.std.specs.Bool.{Decides}
pub use Rattle.std.specs.List.{AllByRecursion, cons_option, range_with_len}
pub use Rattle.std.specs.Prelude.{filter_map, min, nat_le, nat_lt, option_copied, replicate, sum, ◌&&◌, ◌==◌}
pub use Rattle.shr_base.specs.declared.ends.WorkerPart.{WorkerPart}
pub use Rattle.shr_base.specs.declared.replies.Answered.{Answered}
pub use Rattle.shr_base.specs.declared.scripts.Script.{Script}
pub use Rattle.shr_base.specs.Walks.{Attempt, WalkRecord}
pub use Rattle.shr_base.specs.declared.walks.MapSeen.{MapSeen}
pub use Rattle.shr_base.specs.declared.walks.PassRecord.{PassRecord}
pub use Rattle.shr_audit_formed.proofs.Eachs.{all_at, below_of, clash, each_all, each_more, each_weaker, fails, more_at}
pub use Rattle.shr_audit_formed.specs.Each.{EachItem, IsWorkerCommand}
pub use Rattle.shr_model.specs.Attempts.{Count, as_count, counts_of, is_held, pass_of}
pub use Rattle.shr_model.specs.Bits.{ids_in, is_set}
pub use Rattle.shr_model.specs.Pass.{FollowsArithmetic, MadeOf, ask_size, batch_of, delta_of, due, due_asks, next_of, total_of}
pub use Rattle.shr_model.specs.Walks.{freed_of, freed_told, is_cut, place_in}
pub use Rattle.shr_laws.specs.LawfulWalk.{AreScansOf, EachPass, IsBegun, IsCountRight, IsLastOfCut, IsLawfulWalk, IsOutcomeOf, IsPlaced, IsStopped, cache_asks_due, cache_of}
pub use Rattle.shr_laws.specs.Parts.{EachAnswer, EachAttempt, EachWalk, command_at, journals_of, parents_of, serial_of, walks_by, walks_in}
pub use Rattle.shr_laws.specs.declared.report.Report.{Report}
pub use Rattle.shr_audit_passes.specs.Commands.{IsAnswerTold, IsPartTold, StandByCommand, walks_with}
pub use Rattle.shr_audit_passes.specs.Counts.{AreCountsAt, AreCountsIn, IsCountIn}
pub use Rattle.shr_audit_passes.specs.Fields.{AreFirstTries, AreTried, IsBareOffline, IsWalkMapped, IsOfRoot, IsRoomAt, IsRoomLast, IsShaped, IsWalkWhole, pass_freed, attempt_freed}
pub use Rattle.shr_audit_passes.specs.Kinds.{IsKindAt, IsStopAt}
pub use Rattle.shr_audit_passes.specs.Scans.{IsScanAfter, freed_of_scan, made_of_scan}
pub use Rattle.shr_audit_passes.specs.declared.scans.ScanSeen.{ScanSeen}
