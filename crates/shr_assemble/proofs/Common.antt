-- SPDX-License-Identifier: GPL-2.0-only
-- The names that the proofs of this crate cite most, passed on from one place. Declares nothing.
pub use Rattle.std.proofs.Common.{Bool, List, Option, Ordering, [], add-one, ap, append_assoc, arith, cond, drop, eq-eqb, eqb, false, get_or, inl, inr, length, length-append, map, ne_eqb, not, pos, refl, rules, subst, suc, sum, sym, take, true, zero, ℕ, ⊎_elim, ◌%◌, ◌&&◌, ◌*◌, ◌++◌, ◌+◌, ◌-ℤ◌, ◌-◌, ◌/◌, ◌<◌, ◌==◌, ◌^◌, ◌||◌, ◌∙◌, ◌∷◌, ◌≡◌, ◌≢◌, ◌≤◌, ◌⊎◌}
pub use Rattle.std.proofs.Math.Nat.{mod-add-div', mod-lt, mul-le-mul_right, mul_comm}
pub use Rattle.std.proofs.Math.Seq.{get_or-append_seam, take-append_seam}
pub use Rattle.std.proofs.lemmas.Bool.{and_from, and_parts, cases_Bool, cases_lt, cases_order, eqb-true, le-leb, le-ltb, leb-true, lt-ltb, ltb-true}
pub use Rattle.std.proofs.lemmas.Bool.Decides.{nat_tests}
pub use Rattle.std.proofs.lemmas.Grind.{flat_map-append}
pub use Rattle.std.proofs.lemmas.Int.{ints}
pub use Rattle.std.proofs.lemmas.List.{append-nil, append_cancel_left, get_or-map, get_or_append_left, length-map, length-replicate, length-take, length-take-le, map-append, map-id, take-append-drop, take-append-le, take-take, take_all}
pub use Rattle.std.proofs.lemmas.List.Elements.{All-append, All-contains_itself, All-from_recursion, All-nil, Contains-append_left, Contains-push, filter_map-append}
pub use Rattle.std.proofs.lemmas.List.FromFn.{get_or-range_with_len, length-range_with_len, take-map-range_with_len}
pub use Rattle.std.proofs.lemmas.List.Kept.{AllPairs-cons}
pub use Rattle.std.proofs.lemmas.List.Sorted.{Contains-permutation, IsPermutation-sym, IsPermutation-trans, answers_always, length_permutation, sorted_far, sum_by-IsPermutation}
pub use Rattle.std.proofs.lemmas.List.Sums.{sum-map, sum_by-append, sum_by-cons}
pub use Rattle.std.proofs.lemmas.Option.{get_or_from_slice_get, none-some, same_Some, slice_get-get_or, slice_get_past, slice_get_read, slice_get_within}
pub use Rattle.std.specs.Int.{bit_at}
pub use Rattle.std.specs.List.{AllAdjacentBelow, AllByRecursion, cons_option, enumerate_from, list_any, range_with_len}
pub use Rattle.std.specs.Option.{IsSomeAnd}
pub use Rattle.std.specs.Prelude.{All, AllPairs, Contains, IfSome, IsPermutation, MatchOption, None, Some, bytes_eq, codes, count_by, filter, filter_map, find, flat_map, if◌then◌else◌, is_some, nat_le, nat_lt, option_and_then, option_map, replicate, slice_get, slice_index_or, sum_by, ⊤, ◌<ℤ◌}
pub use Rattle.shr_base.specs.Kept.{Kept}
pub use Rattle.shr_base.specs.declared.ends.LookupWord.{LookupWord}
pub use Rattle.shr_base.specs.declared.ends.MapEnd.{MapEnd}
pub use Rattle.shr_base.specs.declared.ends.PlaceAmount.{PlaceAmount}
pub use Rattle.shr_base.specs.declared.ends.PlaceEnd.{PlaceEnd}
pub use Rattle.shr_base.specs.declared.ends.WorkerPart.{WorkerPart}
pub use Rattle.shr_base.specs.declared.journals.DropKind.{DropKind}
pub use Rattle.shr_base.specs.declared.journals.Entry.{Entry}
pub use Rattle.shr_base.specs.declared.journals.Entry.TheVariants.{Add, Closed, Drained, Drop, Look, MovedIn, Pin, Scan}
pub use Rattle.shr_base.specs.declared.journals.PoolEntry.{PoolEntry}
pub use Rattle.shr_base.specs.declared.journals.PoolEntry.TheVariants.{Idle, Registered, Unregistered}
pub use Rattle.shr_base.specs.declared.journals.TreeEntry.{TreeEntry}
pub use Rattle.shr_base.specs.declared.journals.TreeEntry.TheVariants.{Begin, Done}
pub use Rattle.shr_base.specs.declared.journals.UseStep.{UseStep}
pub use Rattle.shr_base.specs.declared.objects.Object.{Object}
pub use Rattle.shr_base.specs.declared.objects.Policy.{Policy}
pub use Rattle.shr_base.specs.declared.places.At.{At}
pub use Rattle.shr_base.specs.declared.places.Place.{Place}
pub use Rattle.shr_base.specs.declared.places.Serial.{Serial}
pub use Rattle.shr_base.specs.declared.places.Target.{Target}
pub use Rattle.shr_base.specs.declared.replies.Answered.{Answered}
pub use Rattle.shr_base.specs.declared.replies.Found.{Found}
pub use Rattle.shr_base.specs.declared.replies.HalfWhy.{HalfWhy}
pub use Rattle.shr_base.specs.declared.replies.IsolateEnd.{IsolateEnd}
pub use Rattle.shr_base.specs.declared.replies.Reply.{Reply}
pub use Rattle.shr_base.specs.declared.replies.Spent.{Spent}
pub use Rattle.shr_base.specs.declared.scripts.CacheDecl.{CacheDecl}
pub use Rattle.shr_base.specs.declared.scripts.Act.TheVariants.{Del, Get, SetPin}
pub use Rattle.shr_base.specs.declared.scripts.Command.{Command}
pub use Rattle.shr_base.specs.declared.scripts.Command.TheVariants.{Balance, Grab, Isolate, MkGroup, Offline, On, Put, Register, Release, Shrink, Unregister}
pub use Rattle.shr_base.specs.declared.scripts.GroupDecl.{GroupDecl}
pub use Rattle.shr_base.specs.declared.scripts.PoolDecl.{PoolDecl}
pub use Rattle.shr_base.specs.declared.scripts.Script.{Script}
pub use Rattle.shr_base.specs.declared.scripts.Sweep.{Sweep}
pub use Rattle.shr_base.specs.declared.scripts.WorkerScript.{WorkerScript}
pub use Rattle.shr_base.specs.Walks.{Attempt, WalkRecord}
pub use Rattle.shr_base.specs.declared.walks.Carry.{Carry}
pub use Rattle.shr_base.specs.declared.walks.Ending.{Ending}
pub use Rattle.shr_base.specs.declared.walks.Isolation.{Isolation}
pub use Rattle.shr_base.specs.declared.walks.MapSeen.{MapSeen}
pub use Rattle.shr_base.specs.declared.walks.Outcome.{Outcome}
pub use Rattle.shr_base.specs.declared.walks.PassRecord.{PassRecord}
pub use Rattle.shr_base.specs.declared.walks.WalkAnswer.{WalkAnswer}
pub use Rattle.shr_cache.specs.Puts.{Asks, PutAs, PutFrom, PutNone, Puts, PutsInVain}
pub use Rattle.shr_charge.proofs.Beginnings.{each_one}
pub use Rattle.shr_charge.proofs.Entries.{begin_grows, begun_made, is_made_grows, made_new}
pub use Rattle.shr_charge.proofs.TreeFacts.{begin_at, begin_found, begun_before, done_at, done_found, in_take, take_below, the_some}
pub use Rattle.shr_charge.proofs.Ways.{way_here, way_root, way_up, way_whole}
pub use Rattle.shr_charge.specs.Answers.{KnowsTree, MakeLeaves, MakeTells, gave}
pub use Rattle.shr_charge.specs.Charging.{AreDowns, AreRising, ChargeOps, IsChargeRefused, IsDown, IsLaterThan, IsOverLimit, IsUp, calls_with, use_group}
pub use Rattle.shr_charge.specs.Offlining.{IsHeard, IsNamed, IsTreeEntryMade, WasState}
pub use Rattle.shr_charge.specs.Paths.{path_to}
pub use Rattle.shr_charge.specs.Seat.{spent_by}
pub use Rattle.shr_charge.specs.Told.{Shows, is_there}
pub use Rattle.shr_charge.specs.Views.{LoadedState, TreeMade, TreeView, Uses, both_uses}
pub use Rattle.shr_charge.specs.declared.answers.ChargeAnswer.{ChargeAnswer}
pub use Rattle.shr_charge.specs.declared.answers.GroupState.{GroupState}
pub use Rattle.shr_charge.specs.Uses.{StandsInHistory, downs_at, times_at, ups_at}
pub use Rattle.shr_core.proofs.Gains.{adds_none, adds_then}
pub use Rattle.shr_core.proofs.Left.{place_back}
pub use Rattle.shr_core.proofs.Listing.{back}
pub use Rattle.shr_core.proofs.PoolLengths.{declared_in, past_none}
pub use Rattle.shr_core.specs.Ending.{EndValue, end_value, nodes_below, place_ends, units_in}
pub use Rattle.shr_core.specs.Gained.{Adds, Gained, among, cleared_in, nothing, sets_in, then_gained}
pub use Rattle.shr_core.specs.Layout.{above, beside, group_of, map_number, map_of, node_of, place_at, place_id, places_in}
pub use Rattle.shr_core.specs.Leaving.{IsLeft}
pub use Rattle.shr_core.specs.Lookup.{lookups_of}
pub use Rattle.shr_core.specs.Order.{AreEvents, IsUsing, ids_of, last_moment, last_users}
pub use Rattle.shr_core.specs.Parts.{Counted, Dated, Event, Known, Loaded, Made, Mapped, Tried, Turn, Turns, cleared, raised}
pub use Rattle.shr_core.specs.Rule.{AreBorn, IsTurn, family_of, hit, hit_attempt, hit_turn, items_now, opener}
pub use Rattle.shr_core.specs.Seats.{shape_of}
pub use Rattle.shr_core.specs.Steps.{with_put}
pub use Rattle.shr_core.specs.declared.view.View.{View}
pub use Rattle.shr_deferred.proofs.SeatLaws.{gives_both, takes_both}
pub use Rattle.shr_deferred.specs.Left.{is_some_amount}
pub use Rattle.shr_deferred.specs.Moves.{Moves, both, gives_of, no_moves, takes_of}
pub use Rattle.shr_deferred.specs.Rule.{amounts_after, gave_at, strand_at, took_at}
pub use Rattle.shr_drop.specs.Isolating.{IsolateGives, IsolatedAs, IsolatedFrom, Isolates, RefusedBy, found_place, visitor_of}
pub use Rattle.shr_drop.specs.Lawful.{placed, placed_scan}
pub use Rattle.shr_drop.specs.Visiting.{AreIsolated, AreVisits, EndsAs, MeetsWorn, ScansOnce, Visitor}
pub use Rattle.shr_list.specs.Answers.{add_entry, drop_entry, look_entry, pin_entry, scan_entry}
pub use Rattle.shr_list.specs.Listed.{Listed}
pub use Rattle.shr_model.proofs.Booleans.{no_test}
pub use Rattle.shr_model.proofs.BagLaws.{each_append, each_weaker}
pub use Rattle.shr_model.proofs.FamilyLaws.{items_none, items_stay, legal_none, legal_stays}
pub use Rattle.shr_model.proofs.GroupsLaws.{above_zero, child_again, child_takes, path_of-below, path_of-root}
pub use Rattle.shr_model.proofs.GroupsOrder.{IsAtOrAbove-le, IsOn, by_parents, on_le, on_self, preorder_of-on}
pub use Rattle.shr_model.proofs.LegalBag.{IsWhole, bag_of_legal}
pub use Rattle.shr_model.proofs.Members.{Contains_from_Has, Has, Has_from_Contains, filter_has, flat_map_has, map_has}
pub use Rattle.shr_model.proofs.ObjectLaws.{is_some_find, length_after_drop, length_change_first}
pub use Rattle.shr_model.proofs.PlacesLaws.{AreApart_of_ends, find_end, is_place_itself, is_place_same}
pub use Rattle.shr_model.proofs.PoolLaws.{number_from_push, one_of, phase_of_push}
pub use Rattle.shr_model.proofs.UnitsLaws.{Rise, all_rise, ids_within, unit_is, units_stay}
pub use Rattle.shr_model.specs.Attempts.{is_held, number_of, pass_of}
pub use Rattle.shr_model.specs.Bag.{added_by_all, added_in, freed_in, listed_in, serials_of}
pub use Rattle.shr_model.specs.Bits.{units_of}
pub use Rattle.shr_model.specs.Charges.{AreTakenBack, IsBelow, IsChargeHistory, IsDownNext, downs, is_by, is_refused, ups, usage_after}
pub use Rattle.shr_model.specs.Commands.{asks_online, decl_named, group_named, is_serial, jobs_of, round_of, rounds_from}
pub use Rattle.shr_model.specs.Amounts.{amount_at, sum_at}
pub use Rattle.shr_model.specs.Deferred.{amount_of, deferred_word}
pub use Rattle.shr_model.specs.Families.{Family, IsLegal, IsPairedAt, before_closed, items_at, items_of, lists_moved_at, moved_in}
pub use Rattle.shr_model.specs.Freeings.{born_below, is_at_or_above}
pub use Rattle.shr_model.specs.Groups.{Hierarchy, IsAtOrAbove, is_child, is_later, parent_of, path_of, preorder_of}
pub use Rattle.shr_model.specs.Trees.{IsHierarchy, IsTree}
pub use Rattle.shr_model.specs.Isolations.{first_isolation}
pub use Rattle.shr_model.specs.Items.{drop_kind_of, dropped_of, freed_by, is_closed, items_from, step}
pub use Rattle.shr_model.specs.Moves.{given_at, is_below, taken_at}
pub use Rattle.shr_model.specs.Objects.{fresh, holds, is_named, marked_object, named_in, pinned_object, unmarked_object}
pub use Rattle.shr_model.specs.Pass.{FollowsArithmetic, MadeOf, ask_size, batch_of, due, due_asks, total_of}
pub use Rattle.shr_model.specs.Places.{at_group, bit_of, is_place, unit_of}
pub use Rattle.shr_model.specs.PlaceNumbers.{place_number}
pub use Rattle.shr_model.specs.Pool.{IsNextPool, IsPoolJournal, decl_at, decl_of, end_of, from_of, id_of, is_before, is_free, is_live, is_live_decl, last_number, lowest_idle, number_after, phase_of, registrations}
pub use Rattle.shr_model.specs.Prefixes.{IsPrefixOf}
pub use Rattle.shr_model.specs.Scans.{ScanMade, scan_by}
pub use Rattle.shr_model.specs.Tenants.{by_of}
pub use Rattle.shr_model.specs.TreeJournal.{IsTreeJournal, MayBegin, begin_of, done_of, is_made, made_of, undone_child}
pub use Rattle.shr_model.specs.Walks.{Job, freed_told, is_cut, job, job_of, passes_at, place_in}
pub use Rattle.shr_model.proofs.Lists.{all_front, all_push, some_injective}
pub use Rattle.shr_model.specs.Words.{is_name, is_value}
pub use Rattle.shr_node.proofs.Gaining.{each_before, gains_none, gains_then}
pub use Rattle.shr_node.specs.Answers.{Acts, AddGives, DropGives, LookGives, TenantIsWorn}
pub use Rattle.shr_node.specs.Draining.{Draw, drawn, made_by_draws}
pub use Rattle.shr_node.specs.Gains.{Gains, KnowsClosed, bits_for, is_raised}
pub use Rattle.shr_node.specs.Opening.{IsFirstOpen, entry_made}
pub use Rattle.shr_node.specs.Splicing.{AreClosings, Closing, IsClosing, IsSpliced, above_place, bits_by, bits_of_closings, group_place, made_by_closing, made_by_closings, moved_from_group, own_number}
pub use Rattle.shr_offline.specs.Carries.{above_of, amount_taken, carries_noted, carry_moves, carry_noted}
pub use Rattle.shr_offline.specs.Splices.{AllGives, AreSpliced, all_places, count_of_places, first_places, place_by_number}
pub use Rattle.shr_cache.specs.Opening.{Calls, HoldsCache, IsWorkerSpent, LoadsWord, MissesCache, OnCache, RefusedAs, Uncharges}
pub use Rattle.shr_plain.specs.Opening.{pool_sizes}
pub use Rattle.shr_plain.specs.Seat.{PlainState, no_state}
pub use Rattle.shr_plain.specs.declared.answers.GrabAnswer.{GrabAnswer}
pub use Rattle.shr_plain.specs.declared.answers.ReleaseAnswer.{ReleaseAnswer}
pub use Rattle.shr_pool.specs.Lines.{of_job}
pub use Rattle.shr_pool.specs.Worked.{only_job}
pub use Rattle.shr_pool.specs.declared.items.SweepItem.{SweepItem}
pub use Rattle.shr_pool.specs.declared.items.SweepItem.TheVariants.{End}
pub use Rattle.shr_pool.specs.declared.items.SweepJob.{SweepJob}
pub use Rattle.shr_walk.proofs.Netting.{below_not, count_first, nets_charged, nets_downs, nets_refused, times_both, times_of}
pub use Rattle.shr_walk.proofs.Reclaimed.{kept_of, over_of}
pub use Rattle.shr_walk.proofs.Refusing.{refused_above, refused_on, way_few, way_once}
pub use Rattle.shr_walk.specs.Admitting.{AdmissionGives, AreRoundsCut}
pub use Rattle.shr_walk.specs.Rounds.{AreRounds, AreVisited, Round, TriesInRounds, Visit, VisitHadMemory, due_in, job_in, walk_for}
pub use Rattle.shr_walk.specs.Trying.{IsChargeTried, Refusal, charge_work, refused}
pub use Rattle.shr_walk.specs.declared.admission.Admission.{Admission}
pub use Rattle.shr_walk.specs.declared.admission.Admission.TheVariants.{Charged, Memory, Over}
pub use Rattle.shr_walk.proofs.Settling.{Closes, refused_closes}
pub use Rattle.shr_registry.specs.Ending.{AreNodeDraws, Frees, Halves, StoppedBy, UnregisterGives, drawn_from, ended_turn, made_from}
pub use Rattle.shr_laws.specs.BitsLawful.{AreBitsLawful, has_bit, shows_bit}
pub use Rattle.shr_laws.specs.Causes.{MayHaveBegun, drained_by, moved_of}
pub use Rattle.shr_laws.specs.Charges.{IsDownBetween, charged}
pub use Rattle.shr_laws.specs.Cuts.{IsWant}
pub use Rattle.shr_laws.specs.Deferred.{HasCarried, amount_in}
pub use Rattle.shr_laws.specs.Faithful.{IsFaithful}
pub use Rattle.shr_laws.specs.Freshness.{MayBeOffline, is_past_group, made_shown, pool_made, pool_seen, pool_told}
pub use Rattle.shr_laws.specs.Isolated.{isolations_told}
pub use Rattle.shr_laws.specs.Lawful.{IsLawful}
pub use Rattle.shr_laws.specs.LawfulWalk.{AreScansOf, IsLastOfCut, IsOutcomeOf, IsPlaced, IsStopped, cache_asks_due}
pub use Rattle.shr_laws.specs.Parts.{IsThere, answer_at, answers_in, answers_of, at, carries_in, carries_of, cited_by, command_at, commands_in, commands_of, decls_on, id_found, isolations_in, isolations_of, items_before, items_left, journal_of, journals_of, limit_of, limits_of, lookups_at, parents_of, places_of, script_hierarchy, serial_of, sweeps_in, sweeps_of, uses_at, walks_in, walks_of}
pub use Rattle.shr_laws.specs.Puts.{AreFreePutsAdded}
pub use Rattle.shr_laws.specs.PutSums.{DoPutsAddUp}
pub use Rattle.shr_laws.specs.ReplyTable.{Cites, IsReply, group_met}
pub use Rattle.shr_laws.specs.Swept.{IsSweepWalk, IsSwept}
pub use Rattle.shr_laws.specs.Takes.{WordStep, place_of_parent, places_offlined, steps_handed, steps_passed, steps_walked, took}
pub use Rattle.shr_laws.specs.Tries.{refusals_of, was_charged}
pub use Rattle.shr_laws.specs.WalksLawful.{IsToldBy, MayMake, balance_reply, over_at, reply_of, shrink_reply}
pub use Rattle.shr_laws.specs.WellFormed.{AreNotFalling, AreNumbersRising, AreOfCommands, HasWords, IsAmountWell, IsBefore, IsBitWord, IsCarryBefore, IsNumbered, IsPartWell, IsPlaceBefore, IsPlaceWell, IsPoolAmountWell, IsPoolNumbered, IsSpelled, IsTreeNumbered, IsUseBefore, IsWalkWell, IsWellFormed, LendsWord, bit_places, map_units}
pub use Rattle.shr_laws.specs.declared.report.Report.{Report}
pub use Rattle.shr_laws.specs.BitsTold.{bit_place}
pub use Rattle.shr_laws.specs.UnitParts.{PlainJob, one_plain, plain_due, plain_in, plain_jobs, plain_of}
pub use Rattle.shr_script.proofs.BoundsLaws.{within_of_valid}
pub use Rattle.shr_script.specs.Bounds.{IsCommandWithin, IsGroup, IsIsolationWithin, IsObjectWithin, IsPoolCommandWithin, IsPoolWithin, IsSweepWithin, IsWithin}
pub use Rattle.shr_script.specs.Content.{content_of}
pub use Rattle.shr_seats.proofs.RowLaws.{place_inside, row_low}
pub use Rattle.shr_seats.proofs.Weighing.{Each-append, Each-none, Each-one, Each-weaker, at_begins, begins_all, begins_more, only_no, only_yes, some_term, total-append, total_zero}
pub use Rattle.shr_seats.specs.Lines.{Deed, by_seat, part}
pub use Rattle.shr_seats.specs.Rows.{IsPlaceOf, place_of_row, row_count, row_of}
pub use Rattle.shr_seats.specs.Shapes.{groups_in, hierarchy_of}
pub use Rattle.shr_seats.specs.Views.{Each}
pub use Rattle.shr_seats.specs.Weights.{Begins, only, times, total}
pub use Rattle.shr_seats.specs.declared.rows.Sizes.{Sizes}
pub use Rattle.shr_seats.specs.declared.shape.Shape.{Shape}
pub use Rattle.shr_seats.proofs.Lining.{part-append}
pub use Rattle.shr_tables.specs.Opened.{AreEntered, Enters, EntersIf, is_on}
pub use Rattle.shr_tables.specs.declared.ending.Ends.{Ends}
pub use Rattle.shr_tree.specs.Tree.{Groups}
pub use Rattle.shr_lawful.proofs.UnitAlong.{slice_cases}
pub use Rattle.shr_lawful.proofs.UnitLists.{at_some, by_slices, count_total, slice_left, some_at, sum_total}
pub use Rattle.shr_lawful.proofs.UnitPrinting.{find_back, find_front, slice_map}
pub use Rattle.shr_lawful.proofs.UnitReclaims.{not_le}
pub use Rattle.shr_lawful.specs.UnitDid.{DidPoolWalks, DidUnitsOf, IsOther, units_grab_reply, units_release_reply}
pub use Rattle.shr_lawful.specs.UnitSteps.{AreChained, UnitsStep, last_units_state, units_made_in, units_state_after, units_steps_in, units_steps_of}
pub use Rattle.shr_lawful.specs.UnitRuns.{AreUnits, IsRoomOf, IsSeenIn, IsUnitsStep}
pub use Rattle.shr_lawful.proofs.UnitFormLaw.{entered, plain_order, unit_order}
pub use Rattle.shr_walk.proofs.Doing.{called_none, does_none, does_then, moves_assoc}
pub use Rattle.shr_walk.proofs.FreshLaws.{fresh_none, fresh_then}
pub use Rattle.shr_walk.proofs.Held.{adds_put}
pub use Rattle.shr_walk.specs.Balances.{AreWalked, BalanceGives, HadMemory, IsBalanceCut, IsBalanced, OneGives, all_groups, lacked_memory}
pub use Rattle.shr_walk.specs.Fresh.{AreFresh, IsFreshAt, Rising}
pub use Rattle.shr_walk.specs.Keeping.{IsScanOf, objects_freed, paths_of, shared_parents}
pub use Rattle.shr_walk.specs.Listing.{list_scan_by, scan_at}
pub use Rattle.shr_walk.specs.Records.{AreLater, AreScannedBy, AreStopped, IsScanMade, IsScannedBy, counts_of_outcome, place_of_walk}
pub use Rattle.shr_walk.specs.Sharing.{IsShared}
pub use Rattle.shr_walk.specs.Shown.{IsWalkSeen, PassSeen, WornSeen}
pub use Rattle.shr_walk.specs.State.{Does, Work, WorkerState, no_work, then_work}
pub use Rattle.shr_walk.specs.Walked.{AreParts, AreTriedFirst, GoesOn, IsCutLast, IsPart, IsRecordOf, IsUncut, IsWalkNumber, IsWalkOver, RootGives, RootMade, WalkGives, WalkMade, WalkParts, counts_seen, ids_shown, is_cut_by, is_outcome_cut, moves_made, number_in, parts_of, place_of, record_of, walk_work}
pub use Rattle.shr_walk.specs.declared.seats.Shared.{Shared}
pub use Rattle.shr_walk.specs.declared.walking.Walk.{Walk}
pub use Rattle.shr_walk.proofs.Scanned.{not_spent}
pub use Rattle.shr_worker.specs.Chain.{CrewState, DeedGives, IsWorkOf, command_serial, listed_commands, worker_commands}
pub use Rattle.shr_worker.specs.Commands.{Balances, CommandGives, Shrinks, next_walk}
pub use Rattle.shr_worker.specs.Plain.{PlainGives, WalksIf, has_pools, is_due, is_walked, units_room, worker_units_place}
pub use Rattle.shr_worker.specs.Replies.{grab_reply, make_reply, objects_drained, offline_reply, register_reply, release_reply, unfound, unregister_reply, walk_reply}
pub use Rattle.shr_worker.proofs.Within.{one_of as all_slice_by}
pub use Rattle.shr_worker.proofs.Pooled.{isolate_there, served}
pub use Rattle.shr_lawful.specs.Attempts.{DidAttempt, DidPass, HasMetCache, scan_made, scans_made}
pub use Rattle.shr_lawful.specs.Causes.{IsCausedBy, IsOverBy, IsUnmadeBy, IsUsedUpBy, IsWhyBy}
pub use Rattle.shr_lawful.specs.Charges.{DidCharges, added_below, made_freed_below, ops_at}
pub use Rattle.shr_lawful.specs.Deferred.{DidCarry, DidMoves, told_step}
pub use Rattle.shr_lawful.specs.Did.{Did}
pub use Rattle.shr_assemble.specs.Ends.{AreEndsOf, Firsts, HasHelped, HasWorked, HelpsWith, firsts_at_start, new_worker, sweep_reply, with_worker, with_workers}
pub use Rattle.shr_lawful.specs.Entries.{DidEntries, Drains, Fills, IsClosedByOffline, IsFirstFor, IsListFilled, IsMadeAsCited, IsReplyTo, IsSetLast, IsTenantEntry, MayMakeEntry, StandsIn}
pub use Rattle.shr_lawful.specs.Isolating.{DidIsolation, DidIsolations, isolated_before, isolated_in}
pub use Rattle.shr_lawful.specs.Lookups.{DidLookups, IsFoundBy, lookup_numbered, number_found, number_made, numbers_tried}
pub use Rattle.shr_assemble.specs.Makes.{IsMadeOf, StandsBefore, added_count, listed_count, log_answers, log_carries, log_isolations, log_plain, log_walks}
pub use Rattle.shr_assemble.specs.Noting.{ArePrintedParts, AreUsesSorted, IsLastAnswered, printed_part}
pub use Rattle.shr_lawful.specs.Offlining.{DidTree, IsEntryOf, KnowsOnline, KnowsUnmade, MeetsGroups}
pub use Rattle.shr_lawful.specs.Pool.{DidPool, IsTurnOf}
pub use Rattle.shr_assemble.specs.Putting.{AreEnds, IsPutTogether}
pub use Rattle.shr_lawful.specs.Runs.{AreDeferred, AreIsolating, AreRunJournals, AreRunSteps, AreUsesAndTree, IsMapOf, IsMarked, IsNewWorker, IsPrinted, IsRun, IsShownIn, IsSized, IsStep, all_attempts, all_cleared, all_entries, all_gives, all_made, all_ops, all_sets, all_takes, all_turns}
pub use Rattle.shr_lawful.specs.Steps.{AreStepsChained, BringsWork, Grows, IsAmong, IsPut, Step, gathered, steps_in, steps_of, worker_state_after}
pub use Rattle.shr_lawful.specs.Sweeps.{ArePoppedOnce, AreSwept, IsOfPops, all_popped, job_walked}
pub use Rattle.shr_lawful.specs.Walks.{AreWalksFor, DidJobs, DidRounds, DidRoundsOf, DidSweep, DidWalk, DidWalks, IsRecord, cleared_by_walk, counted_in, map_word, mapped_in, set_by_walk}
pub use Rattle.shr_lawful.specs.Worn.{AreBoth, AreChargesWorn, IsListWorn, IsOneMore, IsWornBy, KnowsList}
pub use Rattle.shr_assemble.specs.declared.logs.WorkerLog.{WorkerLog}
pub use Rattle.shr_assemble.specs.declared.noting.Noted.{Noted}
pub use lib.ListN.{get_elem?}
pub use mathlib.Core.Logic.{dite}
pub use mathlib.Core.Option.{some, some-injective, some-ne-none}
pub use native.Mathlib.Decide.{dec_lt, ℕ_discrete}
