-- SPDX-License-Identifier: GPL-2.0-only
-- The names that the proofs of this crate cite most, passed on from one place. Declares nothing.
pub use Rattle.std.proofs.Common.{Bool, List, None, Option, Some, [], ap, arith, below_more, cond, false, get_or, inl, inr, length, map, refl, rules, slice_get, subst, suc, sum_by, sym, take, true, zero, ℕ, ◌++◌, ◌+◌, ◌-◌, ◌<◌, ◌∙◌, ◌∷◌, ◌≡◌, ◌≤◌}
pub use Rattle.std.proofs.lemmas.Bool.Decides.{nat_tests}
pub use Rattle.std.proofs.lemmas.List.{append-nil, append_assoc, length-map, take_all, take_more}
pub use Rattle.std.proofs.lemmas.List.Sorted.{IsNonDecreasingBy-from_all_adjacent, IsPartitionPoint-from_clause}
pub use Rattle.std.proofs.lemmas.Option.{get_or_from_slice_get, slice_get-get_or, slice_get-map, slice_get_read, slice_get_within}
pub use Rattle.std.specs.Bool.{Decides}
pub use Rattle.std.specs.Option.{IsSomeAnd}
pub use Rattle.std.specs.Prelude.{IfSome, Vec, filter, is_some, nat_le, nat_lt, option_map, option_to_list, replicate, sum, ◌&&◌, ◌==◌}
pub use Rattle.std.specs.declared.alloc.Global.{Global}
pub use Rattle.shr_base.specs.declared.ends.WorkerPart.{WorkerPart}
pub use Rattle.shr_base.specs.declared.journals.Entry.{Entry}
pub use Rattle.shr_base.specs.declared.journals.Entry.TheVariants.{Add, Closed, Drained, Drop, Look, MovedIn, Pin, Scan}
pub use Rattle.shr_base.specs.declared.places.Place.{Place}
pub use Rattle.shr_base.specs.declared.replies.Answered.{Answered}
pub use Rattle.shr_base.specs.declared.scripts.Script.{Script}
pub use Rattle.shr_base.specs.declared.walks.Isolation.{Isolation}
pub use Rattle.shr_audit_formed.proofs.Eachs.{all_at, below_of, clash, each_all, each_more, fails, more_at}
pub use Rattle.shr_audit_formed.specs.Each.{EachItem, IsWorkerCommand}
pub use Rattle.shr_model.specs.Isolations.{IsLawfulIsolation, Met, ScanSeen, first_isolation, isolation_walk, met_of, met_one, mets_of}
pub use Rattle.shr_model.specs.Places.{is_place}
pub use Rattle.shr_laws.specs.Isolated.{AreIsolationsLawful, IsOfIsolation, isolations_by, isolations_told, scan_seen, scans_seen}
pub use Rattle.shr_laws.specs.Parts.{EachAnswer, EachEntry, commands_of, isolation_at, isolations_in, journal_of, journals_of, serial_of}
pub use Rattle.shr_laws.specs.declared.report.Report.{Report}
pub use Rattle.shr_audit_isolations.specs.Commands.{TellsIsolations, PartTellsIsolations, IsolationsByCommand, isolations_with}
pub use Rattle.shr_audit_isolations.specs.Gathered.{AreGathered, GainsScans, IsGatheringBegun, IsOfTheirs, IsOfTold, IsolationTold, at_place, begun, gathered_of, journals_to, new_at, gathered_row, seen_of, told_at, told_of, with_scans}
pub use Rattle.shr_audit_isolations.specs.Lawful.{IsAskedAlike, IsBounded, isolation_freed, met_by}
pub use Rattle.shr_audit_isolations.specs.Right.{AreGatheredRight, AreRowsRight, IsToldRight}
pub use Rattle.shr_audit_isolations.specs.declared.gathered.Gathered.{Gathered}
pub use Rattle.shr_audit_isolations.specs.declared.gathered.IsolationScan.{IsolationScan}
