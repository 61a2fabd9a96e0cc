-- SPDX-License-Identifier: GPL-2.0-only
-- The names that the proofs of this crate cite most, passed on from one place. Declares nothing.
pub use Rattle.std.proofs.Common.{Bool, List, None, Option, Some, [], ap, arith, cond, drop, false, get_or, inl, inr, length, map, refl, rules, slice_get, subst, suc, sum_by, sym, take, true, zero, ℕ, ◌++◌, ◌+◌, ◌-◌, ◌<◌, ◌^◌, ◌∙◌, ◌∷◌, ◌≡◌, ◌≢◌, ◌≤◌, ◌⊎◌}
pub use Rattle.std.proofs.Math.Seq.{get_or-append_seam}
pub use Rattle.std.proofs.lemmas.Bool.{cases_Bool, cases_lt, cases_order, eq-eqb, eqb-true}
pub use Rattle.std.proofs.lemmas.Bool.Decides.{Decides-like, nat_tests}
pub use Rattle.std.proofs.lemmas.Grind.{flat_map-append}
pub use Rattle.std.proofs.lemmas.List.{append-nil, append_assoc, drop_more, get_or_append_left, length-append, length-take, take-append-drop, take-replicate, take_all, take_more}
pub use Rattle.std.proofs.lemmas.List.Elements.{filter_map-append}
pub use Rattle.std.proofs.lemmas.List.Sorted.{IsNonDecreasingBy-from_all_adjacent, IsNonDecreasingBy-from_sort_by_key, IsNonDecreasingBy-push, IsPartitionPoint-from_clause, IsPartitionedBy-leb, IsPartitionedBy-ltb, all_adjacent_from_non_decreasing, answers_always}
pub use Rattle.std.proofs.lemmas.List.Sums.{fold-append, sum_by-append, sum_by-cons, sum_by_more}
pub use Rattle.std.proofs.lemmas.Option.{get_or_from_slice_get, same_Some, slice_get-get_or, slice_get_cases, slice_get_read, slice_get_within}
pub use Rattle.std.specs.Bool.{Decides}
pub use Rattle.std.specs.List.{AllByRecursion, cons_option, enumerate_from}
pub use Rattle.std.specs.List.Sorted.{IsNonDecreasingBy, IsPartitionedBy, IsStableByKey, ties}
pub use Rattle.std.specs.Prelude.{filter, filter_map, flat_map, nat_le, nat_lt, not, option_and_then, option_map, option_to_list, replicate, ◌&&◌, ◌==◌, ◌↔◌}
pub use Rattle.shr_audit_pools.proofs.DueLoops.{each_plain_of, item_fails, items_whole, none_some, value_fails}
pub use Rattle.shr_audit_tables.proofs.Steps.{sum_item}
pub use Rattle.shr_audit_passes.proofs.Answered.{here_at}
pub use Rattle.shr_base.specs.declared.ends.PlaceAmount.{PlaceAmount}
pub use Rattle.shr_base.specs.declared.ends.UnitsEnd.{UnitsEnd}
pub use Rattle.shr_base.specs.declared.ends.WorkerPart.{WorkerPart}
pub use Rattle.shr_base.specs.declared.journals.PlainEntry.{PlainEntry}
pub use Rattle.shr_base.specs.declared.places.At.{At}
pub use Rattle.shr_base.specs.declared.places.Place.{Place}
pub use Rattle.shr_base.specs.declared.replies.Answered.{Answered}
pub use Rattle.shr_base.specs.declared.replies.Reply.{Reply}
pub use Rattle.shr_base.specs.declared.scripts.PoolDecl.{PoolDecl}
pub use Rattle.shr_base.specs.declared.scripts.Script.{Script}
pub use Rattle.shr_base.specs.declared.walks.PassRecord.{PassRecord}
pub use Rattle.shr_base.specs.declared.walks.PlainAnswer.{PlainAnswer}
pub use Rattle.shr_base.specs.declared.walks.PlainTry.{PlainTry}
pub use Rattle.shr_base.specs.declared.walks.PlainWalk.{PlainWalk}
pub use Rattle.shr_audit_formed.proofs.Eachs.{adjacent_in, all_at, all_of, at_copied, below_of, clash, each_in, fails, more_at}
pub use Rattle.shr_audit_formed.proofs.WellParts.{lists_of, parts_of}
pub use Rattle.shr_audit_formed.specs.Each.{Adjacent, EachItem}
pub use Rattle.shr_model.proofs.PlacesLaws.{is_place_itself, is_place_same}
pub use Rattle.shr_model.specs.Places.{is_place}
pub use Rattle.shr_model.specs.Units.{IsPlainEntry, IsPlainJournal, free_after, free_of}
pub use Rattle.shr_laws.specs.Numbers.{AreUnitsNumbered, HasNumbers, IsPartNumbered, IsPlainEntryNumbered, IsPlainNumbered}
pub use Rattle.shr_laws.specs.Parts.{EachAnswer, answers_in, at, commands_of, reply_at, serial_of}
pub use Rattle.shr_laws.specs.Pools.{ArePoolsLawful, AreUnitsRight, HasTries, IsKind, IsPlainCount, IsPlainLawful, IsPoolReply, ReclaimMade, freed_in_try, plain_told, plain_versions, pool_printed_at, reclaim_by, version_in}
pub use Rattle.shr_laws.specs.UnitParts.{EachPlain, EachTry, EachUnits, home_in, pass_at, pass_in, pool_passes, units_place_at, plain_by, plain_due, plain_in, plain_job_of, plain_of, pool_place, units_cited, units_cited_at, units_entries, units_journal}
pub use Rattle.shr_laws.specs.WellFormed.{AreNotFalling, IsAmountWell, IsPlaceBefore, IsPlaceUpTo, IsPoolAmountWell, IsWellFormed, units_place}
pub use Rattle.shr_laws.specs.declared.report.Report.{Report}
pub use Rattle.shr_audit_case.proofs.Gaining.{gains_as, gains_more}
pub use Rattle.shr_audit_case.specs.Deferred.{GainsAtEach, IsNarrow, deferred_key}
pub use Rattle.shr_audit_pools.specs.Cited.{AreEntriesRight, HasRight, IsEntryRight, IsPartRight, cite_at}
pub use Rattle.shr_audit_pools.specs.Journals.{AreApart, AreJournalsRight}
pub use Rattle.shr_audit_pools.specs.Lows.{AreAllRising, AreAllVersed, AreCitedBelow, AreLows, AreLowsOf, AreCitesRising, AreUpTo, HaveFewTries, IsAbove, HasNoLows, IsHigh, IsPartVersed, IsSmall, IsTryHigh, IsVersed, IsWalkHigh, Lows, NotesReplies, NotesUnitsReply, NotesTries, RaisesLow, cited_or_next, cited_at_reply, kept_as, low_at}
pub use Rattle.shr_audit_pools.specs.Moved.{ArePoolWordsRight, moved_at, moved_by_worker, moved_in_try, pass_next, nr_of, said_of_pass}
pub use Rattle.shr_audit_pools.specs.Passes.{AreReclaimsOf, IsReclaimAfter, IsRunRight, IsTryRight, reclaim_freed}
pub use Rattle.shr_audit_pools.specs.Places.{AreKept, AreShelved, pool_key, named_place, journal_printed_at, units_key}
pub use Rattle.shr_audit_pools.specs.Stock.{AreFree, AreReclaims, AreStocksOf, IsStockOf, StandByWalk, all_reclaims, made_of_reclaim, reclaimed_of, walk_key, reclaims_with_key}
pub use Rattle.shr_audit_pools.specs.declared.places.PoolPlace.{PoolPlace}
pub use Rattle.shr_audit_pools.specs.declared.stock.Reclaimed.{Reclaimed}
pub use Rattle.shr_model.proofs.Lists.{get_last}
