-- SPDX-License-Identifier: GPL-2.0-only
-- The names that the proofs of this crate cite most, passed on from one place. Declares nothing.
pub use Rattle.std.proofs.Common.{Bool, List, None, Option, Some, [], ap, arith, eq-eqb, false, flat_map, inl, inr, length, length-append, map, ne_eqb, refl, subst, suc, sym, take, true, zero, ℕ, ⊎_elim, ◌%◌, ◌&&◌, ◌*◌, ◌++◌, ◌+◌, ◌-◌, ◌<◌, ◌^◌, ◌∙◌, ◌∷◌, ◌≡◌, ◌≤◌, ◌⊎◌}
pub use Rattle.std.proofs.lemmas.Bool.{and_parts, cases_Bool, cases_order, eqb-true}
pub use Rattle.std.proofs.lemmas.Option.{none-some, same_Some, slice_get_within}
pub use Rattle.std.specs.List.{AllAdjacentBelow, AllByRecursion, cons_option, list_any, range_with_len}
pub use Rattle.std.specs.Option.{IsSomeAnd, option_map_or}
pub use Rattle.std.specs.Prelude.{AllPairs, Contains, IfSome, codes, cond, count_by, filter, filter_map, find, fold, if◌then◌else◌, is_some, nat_abs, nat_lt, negsuc, option_and_then, option_map, option_to_list, pos, replicate, slice_get, sum_by, ⊤, ◌-ℤ◌, ◌==◌, ◌||◌, ◌≢◌}
pub use Rattle.shr_base.specs.declared.ends.MapEnd.{MapEnd}
pub use Rattle.shr_base.specs.declared.ends.PlaceAmount.{PlaceAmount}
pub use Rattle.shr_base.specs.declared.ends.PlaceEnd.{PlaceEnd}
pub use Rattle.shr_base.specs.declared.ends.UnitsEnd.{UnitsEnd}
pub use Rattle.shr_base.specs.declared.ends.WorkerPart.{WorkerPart}
pub use Rattle.shr_base.specs.declared.journals.Entry.{Entry}
pub use Rattle.shr_base.specs.declared.journals.Entry.TheVariants.{Add, Closed, Drained, Drop, Look, MovedIn, Scan}
pub use Rattle.shr_base.specs.declared.journals.PlainEntry.{PlainEntry}
pub use Rattle.shr_base.specs.declared.journals.PoolEntry.{PoolEntry}
pub use Rattle.shr_base.specs.declared.journals.PoolEntry.TheVariants.{Idle, Registered, Unregistered}
pub use Rattle.shr_base.specs.declared.journals.TreeEntry.TheVariants.{Begin, Done, Made}
pub use Rattle.shr_base.specs.declared.journals.UseStep.{UseStep}
pub use Rattle.shr_base.specs.declared.objects.Object.{Object}
pub use Rattle.shr_base.specs.declared.objects.Policy.TheVariants.{Clock, Plain}
pub use Rattle.shr_base.specs.declared.places.At.{At}
pub use Rattle.shr_base.specs.declared.places.Place.{Place}
pub use Rattle.shr_base.specs.declared.places.Serial.{Serial}
pub use Rattle.shr_base.specs.declared.replies.Answered.{Answered}
pub use Rattle.shr_base.specs.declared.replies.Found.{Found}
pub use Rattle.shr_base.specs.declared.replies.IsolateEnd.{IsolateEnd}
pub use Rattle.shr_base.specs.declared.replies.Reply.{Reply}
pub use Rattle.shr_base.specs.declared.scripts.Act.TheVariants.{Del, Get, SetPin}
pub use Rattle.shr_base.specs.declared.scripts.CacheDecl.{CacheDecl}
pub use Rattle.shr_base.specs.declared.scripts.Command.{Command}
pub use Rattle.shr_base.specs.declared.scripts.Command.TheVariants.{Balance, Grab, Isolate, MkGroup, Offline, On, Put, Release, Shrink}
pub use Rattle.shr_base.specs.declared.scripts.PoolDecl.{PoolDecl}
pub use Rattle.shr_base.specs.declared.scripts.Script.{Script}
pub use Rattle.shr_base.specs.declared.scripts.Sweep.{Sweep}
pub use Rattle.shr_base.specs.Walks.{Attempt, WalkRecord}
pub use Rattle.shr_base.specs.declared.walks.Carry.{Carry}
pub use Rattle.shr_base.specs.declared.walks.Ending.{Ending}
pub use Rattle.shr_base.specs.declared.walks.Ending.TheVariants.{Through}
pub use Rattle.shr_base.specs.declared.walks.Isolation.{Isolation}
pub use Rattle.shr_base.specs.declared.walks.MapSeen.{MapSeen}
pub use Rattle.shr_base.specs.declared.walks.PassRecord.{PassRecord}
pub use Rattle.shr_base.specs.declared.walks.PlainAnswer.{PlainAnswer}
pub use Rattle.shr_base.specs.declared.walks.PlainTry.{PlainTry}
pub use Rattle.shr_base.specs.declared.walks.PlainTry.TheVariants.{Empty, Ran, Skip}
pub use Rattle.shr_base.specs.declared.walks.PlainWalk.{PlainWalk}
pub use Rattle.shr_base.specs.declared.walks.WalkAnswer.{WalkAnswer}
pub use Rattle.shr_base.specs.declared.walks.WalkAnswer.TheVariants.{Walked}
pub use Rattle.shr_model.proofs.Members.{Has, Has_from_Contains}
pub use Rattle.shr_model.proofs.PlacesLaws.{is_place_same}
pub use Rattle.shr_model.specs.Attempts.{Count, counts_of, is_held, number_of, pass_of}
pub use Rattle.shr_model.specs.Charges.{AreTakenBack, IsChargeHistory, IsNextUse, is_refused, ops_by, ups, usage_after}
pub use Rattle.shr_model.specs.Commands.{decl_named, is_put, is_serial, jobs_of}
pub use Rattle.shr_model.specs.Deferred.{amount_of, deferred_word}
pub use Rattle.shr_model.specs.Families.{IsBornAt, MayStand, items_given, moved_in}
pub use Rattle.shr_model.specs.Groups.{IsAtOrAbove, is_child, parent_of}
pub use Rattle.shr_model.specs.Items.{is_closed}
pub use Rattle.shr_model.specs.Moves.{given_at, taken_at}
pub use Rattle.shr_model.specs.Objects.{fresh}
pub use Rattle.shr_model.specs.Pass.{FollowsArithmetic}
pub use Rattle.shr_model.specs.Places.{at_group, is_place}
pub use Rattle.shr_model.specs.PlaceNumbers.{place_number}
pub use Rattle.shr_model.specs.Pool.{IsNextPool, IsPoolJournal, attempt_at, last_number}
pub use Rattle.shr_model.specs.Scans.{scans_by}
pub use Rattle.shr_model.specs.Walks.{ids_seen, is_cut, job_of, passes_at, versions_at}
pub use Rattle.shr_laws.specs.BitsLawful.{AreBitsLawful, is_set_at}
pub use Rattle.shr_laws.specs.Causes.{IsMadeBy, IsMadeOnce, IsOffline, IsOver, IsPoolSpent, IsSpent, MayHaveBegun, MayHaveSpliced, became_idle, drained_of, is_done_by, is_made_by, objects_moved_from}
pub use Rattle.shr_laws.specs.CausesLawful.{AreCausesLawful}
pub use Rattle.shr_laws.specs.Charges.{AreChargesLawful, IsDownBetween, charged, freed_below, listed_below}
pub use Rattle.shr_laws.specs.Deferred.{IsCarryRight, IsDeferredLawful, amount_in, printed_at}
pub use Rattle.shr_laws.specs.Freshness.{AreBelow, is_begin_at, is_done_at, pool_made_by, made_shown, of_answer, pool_made, pool_seen, shown_by, shows_made, shows_offline, tree_seen, walk_cited}
pub use Rattle.shr_laws.specs.Isolated.{AreIsolationsLawful, EachIsolation, IsOfIsolation, isolations_by, isolations_told}
pub use Rattle.shr_laws.specs.Journals.{AreJournalsLawful}
pub use Rattle.shr_laws.specs.Lawful.{IsBagLawful, IsLawful}
pub use Rattle.shr_laws.specs.LawfulWalk.{AreScansOf, IsBegun, IsLastOfCut, IsLawfulWalk, IsStopped, cache_of}
pub use Rattle.shr_laws.specs.Lines.{hex, signed_numeral}
pub use Rattle.shr_laws.specs.Lookups.{AreLookupsLawful, IsFoundRight, found_numbers, tried_numbers}
pub use Rattle.shr_laws.specs.PartNumbers.{ArePartsWell}
pub use Rattle.shr_laws.specs.Numbers.{AreUnitsNumbered, HasNumbers, IsAmountNumbered, IsAnsweredNumbered, IsAtNumbered, IsAttemptNumbered, IsCarryNumbered, IsEndingNumbered, IsEntryNumbered, IsFindNumbered, IsIsolationNumbered, IsListNumbered, IsMapNumbered, IsObjectNumbered, IsOutcomeNumbered, IsPartNumbered, IsPassNumbered, IsPlainAnswerNumbered, IsPlainEntryNumbered, IsPlainNumbered, IsReplyNumbered, IsSeenNumbered, IsSerialNumbered, IsSpentNumbered, IsTryNumbered, IsUseNumbered, IsWalkNumbered, IsWalkedNumbered, IsWhyNumbered}
pub use Rattle.shr_laws.specs.OneOrder.{Counting, EndsUse, TurnTells, HasAt, IsBy, IsDrainedEntry, IsInOneOrder, IsEntryInUse, IsOfUse, ReportTells, IsWhileDying, IsWhileEmpty, ToldMeasure, TellsOf, Told, count, countings_of, entries, entry, looked_by, lookup, lookups, turn, turns}
pub use Rattle.shr_laws.specs.Parts.{EachAnswer, EachAttempt, EachEntry, EachWalk, IsThere, all_carries, all_walks, answer_at, answers_of, at, carries_of, cited_at, cited_by, command_at, commands_of, decls_on, entry_by, script_hierarchy, id_found, isolation_at, isolations_of, items_before, items_left, journal_of, journals_of, later_of, limit_of, lookups_at, parents_of, places_of, reply_at, serial_of, sweeps_in, sweeps_of, uses_at, walk_at, walks_by, walks_of}
pub use Rattle.shr_laws.specs.Pools.{ArePoolsLawful, AreUnitsRight, IsKind, IsLastTry, IsPlainCount, IsPlainLawful, IsPlainPass, IsPoolReply, plain_versions, reclaims_by, version_in}
pub use Rattle.shr_laws.specs.Puts.{AreFreePutsAdded, IsAddedOrSpent, IsFreePut, IsOnlyPut, IsUnlimited, StaysOn, StaysOnline}
pub use Rattle.shr_laws.specs.PutSums.{DoPutsAddUp, IsEachAdded}
pub use Rattle.shr_laws.specs.Replies.{AreRepliesLawful}
pub use Rattle.shr_laws.specs.ReplyTable.{HasCause, IsReply, group_met}
pub use Rattle.shr_laws.specs.Swept.{IsSweepLawful, IsSweepReply, IsSweepRight, IsSwept, IsSweptOut, sweep_serial, sweep_walks, times_swept}
pub use Rattle.shr_laws.specs.Text.{bit_line}
pub use Rattle.shr_laws.specs.UnitParts.{EachPlain, EachTry, EachUnits, PlainJob, all_plain, free_at, pass_at, pass_in, plain_at, plain_due, plain_job_of, plain_of, pool_place, try_at, units_cited_at, units_entries, units_journal}
pub use Rattle.shr_laws.specs.WalksLawful.{AreRoundsOfPut, AreWalksLawful, AreWalksOf, FillsPlace, IsOfPass, balance_reply, over_at, shrink_reply, was_cleared}
pub use Rattle.shr_laws.specs.WellFormed.{AreNotFalling, AreOfCommands, IsNumbered, IsPartWell, IsPlaceBefore, IsPlaceUpTo, IsUseBefore, IsWellFormed, bit_places, map_units, units_place}
pub use Rattle.shr_laws.specs.declared.report.Report.{Report}
pub use mathlib.Core.Logic.{dite}
pub use native.Mathlib.Decide.{ℕ_discrete}
