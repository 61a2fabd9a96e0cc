-- SPDX-License-Identifier: GPL-2.0-only
-- The names that the proofs of this crate cite most, passed on from one place. Declares nothing.
pub use Rattle.std.proofs.Common.{Bool, List, [], ap, append_assoc, arith, cond, drop, eq-eqb, eqb, false, get_or, get_or-set_other, get_or-set_same, if◌then◌else◌, inl, inr, le-ltb, leb, length, length-append, length-set, lt-ltb, ltb, map, nat_lt, ne_eqb, refl, set, subst, suc, sym, take, true, zero, ℕ, ⊎_elim, ◌%◌, ◌&&◌, ◌*◌, ◌++◌, ◌+◌, ◌-◌, ◌/◌, ◌<◌, ◌^◌, ◌∙◌, ◌∷◌, ◌≡◌, ◌≢◌, ◌≤◌, ◌⊎◌}
pub use Rattle.std.proofs.lemmas.Bool.{cases_Bool}
pub use Rattle.std.proofs.lemmas.Bool.Decides.{nat_tests}
pub use Rattle.std.proofs.lemmas.List.{append-nil, drop-append-le, length-map, map-append, map-set, set-get_or, take-append-le, take_all}
pub use Rattle.std.proofs.lemmas.Option.{none-some, same_Some, slice_get_cases}
pub use Rattle.std.specs.Int.{bit_at, bit_not, w64}
pub use Rattle.std.specs.Mem.Slots.{slots_counts, slots_filled, slots_items, slots_len}
pub use Rattle.std.specs.Prelude.{All, Contains, None, Option, Some, bit_and, bit_or, find, nat_le, slice_get, ◌||◌}
pub use Rattle.atomic_table.proofs.Lists.{at_last, at_longer, at_map, at_set, at_snoc, exchanged, set_again, set_else, set_here}
pub use Rattle.atomic_table.specs.Table.{Act, Allows, Final, Joins, Seen, Splits, State, Valid, carried_after, gives, keeps, opening, rest, stepped, takes}
pub use Rattle.shr_base.specs.declared.ends.LookupWord.{LookupWord}
pub use Rattle.shr_base.specs.declared.ends.MapEnd.{MapEnd}
pub use Rattle.shr_base.specs.declared.journals.Entry.{Entry}
pub use Rattle.shr_base.specs.declared.journals.Entry.TheVariants.{Add, Closed, Drained, Drop, Look, MovedIn, Pin, Scan}
pub use Rattle.shr_base.specs.declared.journals.PoolEntry.{PoolEntry}
pub use Rattle.shr_base.specs.declared.journals.PoolEntry.TheVariants.{Idle, Registered, Unregistered}
pub use Rattle.shr_base.specs.declared.objects.Object.{Object}
pub use Rattle.shr_base.specs.declared.objects.Policy.{Policy}
pub use Rattle.shr_base.specs.declared.places.Place.{Place}
pub use Rattle.shr_base.specs.declared.places.Serial.{Serial}
pub use Rattle.shr_list.specs.Listed.{Listed}
pub use Rattle.shr_model.proofs.GroupsLaws.{child_higher, child_takes}
pub use Rattle.shr_model.proofs.Members.{Contains_from_Has, Has, Has_from_Contains}
pub use Rattle.shr_model.proofs.Numbers.{later}
pub use Rattle.shr_model.proofs.PoolLaws.{IsPoolJournal_none, IsPoolJournal_push, Numbered, and_false, decl_at_push_high, decl_at_push_low, decl_from_push, dying_none, ended_later, ended_none, ended_push, from_from_push, met_after, number_from_push, one_of, or_else, phase_of_push, registrations_else}
pub use Rattle.shr_model.specs.Families.{IsAllowed, IsBornAt, IsLegal, MayStand, before_closed, items_at, items_given, items_of, lists_moved_at, moved_in}
pub use Rattle.shr_model.specs.MovedItems.{moved_by}
pub use Rattle.shr_model.specs.Trees.{IsTree}
pub use Rattle.shr_model.specs.Groups.{is_child, parent_of}
pub use Rattle.shr_model.specs.Items.{HasJournal, IsOutcome, after_drop, dropped_of, freed_by, is_closed, is_closing, items_from, step}
pub use Rattle.shr_model.specs.Objects.{change_first, fresh, holds, is_named, marked_object, named_in, pinned_object, unmarked_object, without_first}
pub use Rattle.shr_model.specs.Places.{at_group}
pub use Rattle.shr_model.specs.PlaceNumbers.{place_number}
pub use Rattle.shr_model.specs.PoolEnds.{HaveEndedBy, dying_in}
pub use Rattle.shr_model.specs.Pool.{IsNextPool, IsPoolJournal, decl_after, decl_at, decl_of, from_after, from_of, is_before, is_free, is_live, is_live_decl, last_number, lowest_idle, number_after, phase_of, registrations}
pub use Rattle.shr_seats.proofs.Lining.{AreSo-push, counted_once, in_order, lined_do, lined_first, lined_join, lined_keep, lined_sole, lined_split, set_there, state_after_push}
pub use Rattle.shr_seats.proofs.Seating.{AreSeats-first, AreSeats-join, AreSeats-split, sole}
pub use Rattle.shr_seats.proofs.Sums.{from_map}
pub use Rattle.shr_seats.proofs.Weighing.{Each-append, Each-cons, Each-join, Each-none, Each-one, Each-push, Each-set, Each-weaker, at_begins, begins_all, begins_more, begins_push, only_no, only_yes, some_term, term_le, terms_le, times-push_le, times-push_other, times-push_same, times-without_other, times-without_same, total-append, total-set, total_both, total_join, total_le, total_same, total_zero}
pub use Rattle.shr_seats.specs.Lines.{AreSo, Deed, by_seat, part, state_after}
pub use Rattle.shr_seats.specs.Rows.{place_of_row, row_count, row_of}
pub use Rattle.shr_seats.specs.Shapes.{IsShape, groups_in, sizes_of}
pub use Rattle.shr_seats.specs.Standing.{AreEmptied, AreSeats, IsWhole, Standing}
pub use Rattle.shr_seats.specs.Views.{Each}
pub use Rattle.shr_seats.specs.Weights.{Begins, only, times, total, without}
pub use Rattle.shr_seats.specs.declared.rows.Sizes.{Sizes}
pub use Rattle.shr_seats.specs.declared.shape.Shape.{Shape}
pub use Rattle.shr_core.specs.Again.{DrawsAgain, looked_again, with_again}
pub use Rattle.shr_core.specs.Answers.{MetLive}
pub use Rattle.shr_core.specs.Ending.{IsClosedOf, place_ends, end_value, ends_below, entries_in, entries_of, groups_below, items_in, items_of_slot, lookups_below, nodes_below, units_below, units_in}
pub use Rattle.shr_core.specs.Gained.{Adds, AreKinds, Gained, IsIdle, OwesNoMore, among, attempts_in, cleared_in, loaded_in, made_in, maps_in, nothing, seen_in, sets_in, then_gained, turns_in}
pub use Rattle.shr_core.specs.Layout.{above, beside, place_bit, bits_in, counts_in, group_of, homes_in, place_id, is_row, length_of, locks_in, looks_in, map_number, map_of, node_of, place_at, places_in, rooms_in, row_in, version_of, words_in}
pub use Rattle.shr_core.specs.Lookup.{decl_in, last_lookups, lookups_of, phase_in, refs_of, word_in}
pub use Rattle.shr_core.specs.Opening.{AreFirstWords, AreFreshRooms, IsFreshRoom}
pub use Rattle.shr_core.specs.Order.{AreEvents, AreInUse, AreOrdered, AreOwn, Holders, IsDrawnAt, IsInUse, IsMadeInUse, IsMoment, IsOutOfUse, IsOwn, IsSo, IsTimely, IsUsing, LeavesNothing, Moment, at_start, did_in, finder, holders_after, holders_next, ids_of, last_holders, last_moment, last_users, moment_after, moment_next, no_holders, references_of, stands_at, users_after, users_next}
pub use Rattle.shr_core.specs.Parts.{Claims, RoomContent, Counted, Dated, Event, Hand, Holding, Known, Loaded, Made, Mapped, Marks, Traces, Tried, Turn, Turns, cleared, counted, loaded, looked, made, mapped, no_claims, no_marks, no_rooms, no_traces, no_turns, put_back, raised, turned}
pub use Rattle.shr_core.specs.Ranks.{EntryTells, Measure, EventTells, entries, lookups, turns, value}
pub use Rattle.shr_core.specs.Rule.{AreBorn, AreCounts, AreDated, AreInHand, AreLists, AreLookups, AreLookupsOf, AreMarks, AreOwned, AreRooms, AreRoomsOf, AreTraces, AreTurns, Fits, HasLastEnd, HasOnlyIds, HasOwnEnd, Histories, IsDated, IsHalfSpliced, IsHeld, IsInside, IsKnown, IsLoaded, IsMade, IsMapped, IsOwner, IsRoom, IsSeen, IsShown, IsTried, IsTurn, Journals, IsRoomAtHome, Rules, Sound, claims_of, slot_content, family_of, half_of, has_room, hit, hit_attempt, hit_turn, holding_of, ends_registration, is_room, is_some_of, items_now, list_content, mark_of, marks_of, met_now, only_some, opener, phases, spent, view_standing, traces_of, turns_of}
pub use Rattle.shr_core.specs.Seats.{HasFirst, IsHolding, IsMeeting, IsMet, IsPlaceOfShape, MayTake, numbers_of, room_numbers, room_rows, slot_numbers, view_of}
pub use Rattle.shr_core.specs.Seating.{IsOf}
pub use Rattle.shr_core.specs.Slots.{Slot}
pub use Rattle.shr_core.specs.Steps.{IsAtRest, IsBacked, IsLater, IsTaken, IsUnspliced, MayPhase, MayStore, Sat, claimed, content_in, dated_now, dating_of, drained_after, half_after, in_hand, is_drained, is_empty, with_joined, last_entry, met_in, moved_in_hand, noted, owed_after, put_events, split_off, turn_at, undrained, with_clear, with_content, with_count, with_drained, with_given, with_given_up, with_leave, with_lookup, with_map, with_one_split, with_phase, with_pool_given, with_put, with_set, with_stored, with_taken, with_try, with_word, without_id, without_room}
pub use Rattle.shr_core.specs.Tells.{IsBusy, IsInHand, PlaceTold, PoolTold, phase_told, place_content, raise, took, turns_content, worded}
pub use Rattle.shr_core.specs.declared.seat.Met.{Met}
pub use Rattle.shr_core.specs.declared.setting.Setting.{Setting}
pub use Rattle.shr_core.specs.declared.view.View.{View}
pub use lib.ListN.{get_elem?}
pub use mathlib.Core.Logic.{dite}
pub use mathlib.Core.Option.{none, some, some-injective, some-ne-none}
pub use native.Mathlib.Decide.{dec_le, dec_lt, ℕ_discrete}
