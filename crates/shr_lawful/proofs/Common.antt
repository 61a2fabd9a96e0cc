-- SPDX-License-Identifier: GPL-2.0-only
-- The names that the proofs of this crate cite most, passed on from one place. Declares nothing.
pub use Rattle.std.proofs.Common.{Bool, List, Option, [], ap, append_assoc, arith, cond, drop, eq-eqb, eqb, false, get_or, inl, inr, length, length-append, map, ne_eqb, not, pos, refl, subst, suc, sym, take, true, zero, ℕ, ⊎_elim, ◌%◌, ◌&&◌, ◌*◌, ◌++◌, ◌+◌, ◌-ℤ◌, ◌-◌, ◌<◌, ◌==◌, ◌^◌, ◌||◌, ◌∙◌, ◌∷◌, ◌≡◌, ◌≢◌, ◌≤◌, ◌⊎◌}
pub use Rattle.std.proofs.Math.Seq.{take-append_seam}
pub use Rattle.std.proofs.lemmas.Bool.{and_from, and_parts, cases_Bool, cases_lt, eqb-true, le-leb, lt-ltb, ltb-false, ltb-true}
pub use Rattle.std.proofs.lemmas.Grind.{flat_map-append}
pub use Rattle.std.proofs.lemmas.Int.{ints}
pub use Rattle.std.proofs.lemmas.List.{append-nil, drop_at, get_or_past, length-map, length-take-le, map-append, take-append-le, take_all, take_at}
pub use Rattle.std.proofs.lemmas.List.FromFn.{get_or-range_with_len, length-range_with_len}
pub use Rattle.std.proofs.lemmas.List.Sorted.{Contains-permutation, IsPermutation-sym, length_permutation, sum_by-IsPermutation}
pub use Rattle.std.proofs.lemmas.List.Sums.{sum_by-append, sum_by-cons}
pub use Rattle.std.proofs.lemmas.Option.{get_or_from_slice_get, none-some, same_Some, slice_get-get_or, slice_get_past, slice_get_within}
pub use Rattle.std.specs.Int.{bit_at}
pub use Rattle.std.specs.List.{AllByRecursion, cons_option, enumerate_from, list_any, prefix_len, range_with_len}
pub use Rattle.std.specs.Option.{IsSomeAnd}
pub use Rattle.std.specs.Prelude.{All, AllPairs, Contains, IfSome, MatchOption, None, Some, bytes_eq, count_by, filter, filter_map, find, flat_map, if◌then◌else◌, is_some, nat_le, nat_lt, option_and_then, option_map, option_to_list, slice_get, sum_by, take_while}
pub use Rattle.shr_base.specs.declared.ends.MapEnd.{MapEnd}
pub use Rattle.shr_base.specs.declared.ends.PlaceAmount.{PlaceAmount}
pub use Rattle.shr_base.specs.declared.ends.PlaceEnd.{PlaceEnd}
pub use Rattle.shr_base.specs.declared.ends.WorkerPart.{WorkerPart}
pub use Rattle.shr_base.specs.declared.journals.DropKind.{DropKind}
pub use Rattle.shr_base.specs.declared.journals.Entry.{Entry}
pub use Rattle.shr_base.specs.declared.journals.Entry.TheVariants.{Add, Closed, Drained, Drop, Look, MovedIn, Pin, Scan}
pub use Rattle.shr_base.specs.declared.journals.PoolEntry.{PoolEntry}
pub use Rattle.shr_base.specs.declared.journals.PoolEntry.TheVariants.{Idle, Registered, Unregistered}
pub use Rattle.shr_base.specs.declared.journals.TreeEntry.{TreeEntry}
pub use Rattle.shr_base.specs.declared.journals.TreeEntry.TheVariants.{Begin, Done}
pub use Rattle.shr_base.specs.declared.journals.UseStep.{UseStep}
pub use Rattle.shr_base.specs.declared.objects.Object.{Object}
pub use Rattle.shr_base.specs.declared.objects.Policy.{Policy}
pub use Rattle.shr_base.specs.declared.places.At.{At}
pub use Rattle.shr_base.specs.declared.places.Place.{Place}
pub use Rattle.shr_base.specs.declared.places.Serial.{Serial}
pub use Rattle.shr_base.specs.declared.places.Target.{Target}
pub use Rattle.shr_base.specs.declared.replies.Answered.{Answered}
pub use Rattle.shr_base.specs.declared.replies.Found.{Found}
pub use Rattle.shr_base.specs.declared.replies.HalfWhy.{HalfWhy}
pub use Rattle.shr_base.specs.declared.replies.IsolateEnd.{IsolateEnd}
pub use Rattle.shr_base.specs.declared.replies.Reply.{Reply}
pub use Rattle.shr_base.specs.declared.replies.Spent.{Spent}
pub use Rattle.shr_base.specs.declared.scripts.Act.TheVariants.{Del, Get, SetPin}
pub use Rattle.shr_base.specs.declared.scripts.CacheDecl.{CacheDecl}
pub use Rattle.shr_base.specs.declared.scripts.Command.{Command}
pub use Rattle.shr_base.specs.declared.scripts.Command.TheVariants.{Grab, Isolate, Offline, On, Put, Release}
pub use Rattle.shr_base.specs.declared.scripts.GroupDecl.{GroupDecl}
pub use Rattle.shr_base.specs.declared.scripts.Script.{Script}
pub use Rattle.shr_base.specs.declared.scripts.Sweep.{Sweep}
pub use Rattle.shr_base.specs.declared.scripts.WorkerScript.{WorkerScript}
pub use Rattle.shr_base.specs.Walks.{Attempt, WalkRecord}
pub use Rattle.shr_base.specs.declared.walks.Carry.{Carry}
pub use Rattle.shr_base.specs.declared.walks.Ending.{Ending}
pub use Rattle.shr_base.specs.declared.walks.Isolation.{Isolation}
pub use Rattle.shr_base.specs.declared.walks.MapSeen.{MapSeen}
pub use Rattle.shr_base.specs.declared.walks.Outcome.{Outcome}
pub use Rattle.shr_base.specs.declared.walks.PassRecord.{PassRecord}
pub use Rattle.shr_base.specs.declared.walks.WalkAnswer.{WalkAnswer}
pub use Rattle.shr_charge.proofs.Entries.{begun_made, is_made_grows}
pub use Rattle.shr_charge.proofs.TreeFacts.{begin_at, begin_found, begun_before, done_at, done_below, done_found, is_begin_of, is_done_of, made_at, take_in}
pub use Rattle.shr_charge.specs.Charging.{AreRising, IsLaterThan}
pub use Rattle.shr_charge.specs.Offlining.{IsNamed, IsTreeEntryMade}
pub use Rattle.shr_charge.specs.Told.{is_there}
pub use Rattle.shr_charge.specs.Views.{LoadedState}
pub use Rattle.shr_core.proofs.Gains.{among-append}
pub use Rattle.shr_core.proofs.InUse.{before, before_next, grown, moment_before, so_before}
pub use Rattle.shr_core.proofs.Left.{place_back}
pub use Rattle.shr_core.proofs.Listing.{back}
pub use Rattle.shr_core.specs.Gained.{among, attempts_in, cleared_in, made_in, maps_in, seen_in, turns_in}
pub use Rattle.shr_core.specs.Layout.{group_of, map_number, map_of, place_at, place_id}
pub use Rattle.shr_core.specs.Order.{Holders, IsMadeInUse, IsOutOfUse, IsSo, IsTimely, LeavesNothing, Moment, at_start, last_users, moment_after, moment_next, no_holders, users_next}
pub use Rattle.shr_core.specs.Parts.{Counted, Event, Known, Loaded, Made, Mapped, Tried, Turn, cleared, counted, loaded, looked, made, mapped, raised, turned}
pub use Rattle.shr_core.specs.Ranks.{EventTells}
pub use Rattle.shr_core.specs.Rule.{hit, hit_attempt}
pub use Rattle.shr_deferred.specs.Moves.{Move, Moves, gives_of, takes_of}
pub use Rattle.shr_deferred.specs.Rule.{after_move, amounts_next}
pub use Rattle.shr_drop.specs.Isolating.{visitor_of}
pub use Rattle.shr_drop.specs.Lawful.{Placed, placed, placed_scan}
pub use Rattle.shr_drop.specs.Visiting.{Visitor}
pub use Rattle.shr_model.proofs.Booleans.{no_test}
pub use Rattle.shr_model.proofs.BagLaws.{AreApart, added_distinct, each_append, each_weaker}
pub use Rattle.shr_model.proofs.GroupsLaws.{child_higher, child_takes}
pub use Rattle.shr_model.proofs.GroupsOrder.{IsAtOrAbove-le, IsAtOrAbove-refl, IsAtOrAbove-root, on_chain, on_le}
pub use Rattle.shr_model.proofs.ItemsLaws.{HasJournal_none, items_from_push}
pub use Rattle.shr_model.proofs.LegalBag.{IsWhole, bag_of_legal}
pub use Rattle.shr_model.proofs.Members.{AreApart_filter, Contains_from_Has, Has, Has_filter, Has_flat_map, Has_from_Contains, Has_map, each_has, filter_has, flat_map_has, map_has}
pub use Rattle.shr_model.proofs.MovesLaws.{closed_at, closed_below_root, given_to_parent, gives_before, open_legal, parent_place}
pub use Rattle.shr_model.proofs.PlacesLaws.{AreApart_of_ends, ends_once, find_end, is_place_itself, is_place_same}
pub use Rattle.shr_model.proofs.PoolLaws.{decl_from_push, phase_of_push}
pub use Rattle.shr_model.proofs.Weights.{given_by, mass, mass_append, mass_of_journal, weight, weight_append}
pub use Rattle.shr_model.specs.Attempts.{Count, counts_of, is_clearing, is_held, number_of, pass_of}
pub use Rattle.shr_model.specs.Bag.{IsBag, added_by, added_by_all, added_in, freed_at, freed_in, listed_in, serials_of}
pub use Rattle.shr_model.specs.Bits.{ids_in, is_set, set_bits_of}
pub use Rattle.shr_model.specs.Charges.{AreTakenBack, IsChargeHistory, IsDownNext, downs, is_by, is_refused, ops_by, ups, usage_after}
pub use Rattle.shr_model.specs.Commands.{asks_online, decl_named, group_named, is_put, is_serial, jobs_of}
pub use Rattle.shr_model.specs.Amounts.{amount_at, sum_at}
pub use Rattle.shr_model.specs.Deferred.{deferred_word}
pub use Rattle.shr_model.specs.Families.{Family, IsLegal, MayStand, before_closed, items_at, items_given, items_of, lists_moved_at, moved_in, without_child}
pub use Rattle.shr_model.specs.Freeings.{born_below, freeings_at, is_at_or_above}
pub use Rattle.shr_model.specs.Groups.{Hierarchy, IsAtOrAbove, is_child, is_later, parent_of, path_of}
pub use Rattle.shr_model.specs.Trees.{IsTree}
pub use Rattle.shr_model.specs.Isolations.{IsLawfulIsolation, ScanSeen, first_isolation, isolation_walk}
pub use Rattle.shr_model.specs.Items.{AreOutcomes, HasJournal, IsOutcome, drop_kind_of, dropped_of, first_moved, freed_by, is_closed, is_closing, items_from, later_moved, step}
pub use Rattle.shr_model.specs.Moves.{given_at, is_below, taken_at}
pub use Rattle.shr_model.specs.Objects.{change_first, fresh, holds, is_named, marked_object, named_in, pinned_object, unmarked_object, without_first}
pub use Rattle.shr_model.specs.Pass.{ask_size, batch_of, due, total_of}
pub use Rattle.shr_model.specs.Places.{at_group, bit_of, is_place, unit_of}
pub use Rattle.shr_model.specs.PlaceNumbers.{place_number}
pub use Rattle.shr_model.specs.Pool.{IsNextPool, IsPoolJournal, attempt_at, decl_after, decl_at, decl_of, from_of, id_of, is_free, is_live, is_live_decl, lowest_idle, phase_of, registrations}
pub use Rattle.shr_model.specs.Scans.{ScanMade, scan_by, scans_by}
pub use Rattle.shr_model.specs.Tenants.{by_of}
pub use Rattle.shr_model.specs.TreeJournal.{IsTreeJournal, MayBeDone, MayBegin, begin_of, is_begin, is_done, is_made, undone_child}
pub use Rattle.shr_model.specs.Walks.{clearings_of, ids_seen, is_cut, job_of, passes_at, place_in, versions_at}
pub use Rattle.shr_model.proofs.Lists.{all_right}
pub use Rattle.shr_node.specs.Gains.{KnowsClosed}
pub use Rattle.shr_pool.specs.Lines.{ends, is_end, of_job, sweep_job}
pub use Rattle.shr_pool.specs.Worked.{only_job}
pub use Rattle.shr_pool.specs.declared.items.SweepItem.{SweepItem}
pub use Rattle.shr_pool.specs.declared.items.SweepItem.TheVariants.{End}
pub use Rattle.shr_pool.specs.declared.items.SweepJob.{SweepJob}
pub use Rattle.shr_laws.specs.Causes.{HasDrained, IsAloneAt, IsCached, IsDoneOnce, IsEndingRight, IsFreed, IsFull, IsHalf, IsInTheWay, IsMadeBy, IsMadeOnce, IsOffline, IsOfflineDone, IsOver, IsPassCaused, IsSpent, IsUncached, IsUnmade, IsUnregistered, IsWhy, MayHaveBegun, MayHaveSpliced, StandsInTree, became_idle, downs_of, drained_by, drained_of, is_done_by, is_idle_entry, is_made_by, is_of_worker, moved_of, objects_moved_from, ups_of}
pub use Rattle.shr_laws.specs.Charges.{AreChargesLawful, IsDownBetween, charged, freed_below, freed_in_command, is_of, listed_below, ways_of}
pub use Rattle.shr_laws.specs.Cuts.{AreCutsTold, IsWant}
pub use Rattle.shr_laws.specs.Deferred.{HasCarried, IsCarryRight, IsDeferredLawful, printed_at}
pub use Rattle.shr_laws.specs.Faithful.{AreNotAbove, IsDoneElsewhere, IsFaithful, IsOverOnPath, IsWalkRefused, pool_reached, tree_made, tree_reached}
pub use Rattle.shr_laws.specs.Freshness.{AreBelow, IsFresh, MayBeOffline, is_begin_at, is_done_at, made_shown, of_answer, pool_made, pool_made_by, pool_seen, pool_told, shown_by, shows_begin, shows_made, shows_offline, tree_cited, tree_seen, tree_told, walk_cited}
pub use Rattle.shr_laws.specs.Isolated.{AreIsolationsLawful, IsEndCaused, IsOfIsolation, cache_named, isolation_told, isolations_by, isolations_told, scan_seen, scans_seen}
pub use Rattle.shr_laws.specs.Lawful.{IsBagLawful, IsLawful}
pub use Rattle.shr_laws.specs.LawfulWalk.{AreScansOf, IsCountRight, IsLawfulWalk, IsOutcomeOf, IsStopped, cache_met, cache_of}
pub use Rattle.shr_laws.specs.OneOrder.{ComesBehind, Counting, EndsUse, HasAt, IsBy, IsDrainedEntry, IsEntryInUse, IsInOneOrder, IsOfUse, IsWhileDying, IsWhileEmpty, ReportTells, TellsOf, Told, ToldMeasure, TurnTells, count, countings_in, countings_of, entries, entry, looked_by, lookup, lookups, turn, turns}
pub use Rattle.shr_laws.specs.Parts.{EachAnswer, IsThere, all_carries, all_walks, answer_at, answers_in, answers_of, at, carries_by, carries_in, carries_of, cited_at, cited_by, command_at, commands_in, commands_of, decls_on, entry_by, id_found, isolation_at, items_before, items_left, journal_of, journals_of, later_of, limit_of, limits_of, lookups_at, parents_of, places_of, puts_of, reply_at, scanning_command, script_hierarchy, serial_of, sweeps_in, sweeps_of, uses_at, walk_at, walks_by, walks_in, walks_of}
pub use Rattle.shr_laws.specs.Puts.{AreFreePutsAdded, IsAddedOrSpent, IsFreePut, IsOnlyPut, IsUnlimited, StaysOn, StaysOnline}
pub use Rattle.shr_laws.specs.PutSums.{DoPutsAddUp, IsEachAdded}
pub use Rattle.shr_laws.specs.ReplyTable.{HasCause, IsReply, IsUsedUp, group_met}
pub use Rattle.shr_laws.specs.Swept.{IsSweepLawful, IsSweepReply, IsSweepRight, IsSwept, IsSweptOut, sweep_serial, sweep_walks, times_swept}
pub use Rattle.shr_laws.specs.Takes.{AreTakesInOrder, AreWholeTakes, DeferredAmounts, IsHanded, TakesAt, TakesWhole, Taking, after_all, after_step, carry_of, none_deferred, places_offlined, steps_by, steps_by_worker, steps_handed, steps_walked}
pub use Rattle.shr_laws.specs.Tries.{AreAllTries, AreTriesOf}
pub use Rattle.shr_laws.specs.WalksLawful.{AreRoundsOf, AreWalksLawful, AreWalksOf, Covers, FillsPlace, IsOfPass, IsToldBy, MayMake, was_cleared}
pub use Rattle.shr_laws.specs.WellFormed.{AreNotFalling, IsBefore}
pub use Rattle.shr_laws.specs.declared.report.Report.{Report}
pub use Rattle.shr_laws.specs.BitsTold.{AreBitsTold, HasReason, WasFilled, bit_place, is_set_again, is_since, set_again_in, was_cleared_since}
pub use Rattle.shr_seats.proofs.Weighing.{Each-append, at_begins, begins_all, begins_more, begins_push, only_no, only_yes, some_term, term_le, terms_le, total-append, total_both, total_zero}
pub use Rattle.shr_seats.specs.Lines.{AreSo, Deed, acts_of, by_seat, part, state_after}
pub use Rattle.shr_seats.specs.Views.{Each}
pub use Rattle.shr_seats.specs.Weights.{Begins, only, times, total}
pub use Rattle.shr_seats.proofs.Lining.{acts_by}
pub use Rattle.shr_lawful.proofs.UnitAlong.{slice_cases}
pub use Rattle.shr_lawful.proofs.UnitDueLaw.{filter_both, flat_zero, serial_itself}
pub use Rattle.shr_lawful.proofs.UnitLists.{all_zero, at_some, by_slices, count_total, length_total, only_at, slice_left, some_at, sum_total, total_flat}
pub use Rattle.shr_lawful.proofs.UnitReclaims.{cond_no, cond_yes, enumerated, not_le}
pub use Rattle.shr_lawful.specs.UnitRuns.{IsPoolWorn}
pub use Rattle.shr_lawful.proofs.UnitWalksLaw.{plain_worn, take_alike}
pub use Rattle.shr_lawful.proofs.UnitVersionsLaw.{adjacent}
pub use Rattle.shr_walk.specs.Fresh.{AreFresh, Rising}
pub use Rattle.shr_walk.specs.Records.{is_setting}
pub use Rattle.shr_walk.specs.State.{WorkerState}
pub use Rattle.shr_lawful.specs.Attempts.{HasMetCache, scan_made, scans_made}
pub use Rattle.shr_lawful.specs.Causes.{IsCachedBy, IsCausedBy, IsDoneKnown, IsFreedBy, IsFullBy, IsHalfBy, IsInTheWayBy, IsOfflinedBy, IsOverBy, IsRegisteredBy, IsUncachedBy, IsUnregisteredBy, IsUsedUpBy, IsWhyBy}
pub use Rattle.shr_lawful.specs.Charges.{added_below, made_freed_below, ops_at}
pub use Rattle.shr_lawful.specs.Deferred.{DidCarry, DidMoves, told_step}
pub use Rattle.shr_lawful.specs.Did.{Did}
pub use Rattle.shr_lawful.specs.Entries.{Drains, Fills, IsClosedByOffline, IsDrainedByCommand, IsIsolationVisit, IsListFilled, IsMadeAsCited, IsMoving, IsReplyTo, IsScanned, IsSetLast, IsTenantEntry, MayMakeEntry, StandsIn, isolations_asked}
pub use Rattle.shr_lawful.specs.Isolating.{DidIsolation, isolated_before, isolated_in}
pub use Rattle.shr_lawful.specs.Lookups.{IsFoundBy, lookup_numbered, number_found, number_made, numbers_tried}
pub use Rattle.shr_lawful.specs.Offlining.{IsBeginOf, IsEnded, IsEntryOf, IsMaking, KnowsOnline}
pub use Rattle.shr_lawful.specs.Pool.{DidPool, IsTurnOf}
pub use Rattle.shr_lawful.specs.Runs.{AreRunSteps, IsMapOf, IsMarked, IsRun, IsStep, all_attempts, all_cleared, all_entries, all_gives, all_made, all_ops, all_sets, all_takes}
pub use Rattle.shr_lawful.specs.Steps.{AreStepsChained, BringsWork, Grows, IsAmong, IsPut, Step, gathered, steps_in, steps_of, worker_state_after}
pub use Rattle.shr_lawful.specs.Sweeps.{IsOfPops, all_popped, job_walked}
pub use Rattle.shr_lawful.specs.Walks.{AreWalksFor, DidJobs, DidRoundsOf, DidSweep, DidWalk, cleared_by_walk, counted_in, map_word, mapped_in, set_by_walk}
pub use Rattle.shr_lawful.specs.Worn.{AreBoth, IsListWorn, IsOneMore, IsWornBy, KnowsList}
pub use lib.ListN.{get_elem?}
pub use mathlib.Core.Logic.{dite}
pub use mathlib.Core.Option.{some, some-injective, some-ne-none}
pub use native.Mathlib.Decide.{dec_lt, ℕ_discrete}
