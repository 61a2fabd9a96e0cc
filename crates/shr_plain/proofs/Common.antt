-- SPDX-License-Identifier: GPL-2.0-only
-- The names that the proofs of this crate cite most, passed on from one place. Declares nothing.
pub use Rattle.std.proofs.Common.{Bool, List, [], ap, append_assoc, arith, cond, eq-eqb, eqb, false, get_or, get_or-set_other, get_or-set_same, le-ltb, length, length-append, lit≤, lt-ltb, map, ne_eqb, refl, subst, suc, sym, take, true, zero, ℕ, ◌%◌, ◌*◌, ◌++◌, ◌+◌, ◌/◌, ◌<◌, ◌^◌, ◌∙◌, ◌∷◌, ◌≡◌, ◌≢◌, ◌≤◌}
pub use Rattle.std.proofs.lemmas.Bool.Decides.{nat_tests}
pub use Rattle.std.proofs.lemmas.List.{append-nil, append_cancel_left, length-map, length-replicate, length_push, map-append, map_push}
pub use Rattle.std.proofs.lemmas.List.Elements.{All-map, All-push, filter_map-append}
pub use Rattle.std.specs.List.{cons_option}
pub use Rattle.std.specs.Mem.Slots.{slots_counts, slots_filled, slots_items, slots_len}
pub use Rattle.std.specs.Prelude.{All, None, Option, Some, fold, nat_le, replicate, sum_by, ◌&&◌, ◌==◌}
pub use Rattle.atomic_table.specs.Table.{Allows, Final, Seen, rest}
pub use Rattle.shr_base.specs.declared.journals.PlainEntry.{PlainEntry}
pub use Rattle.shr_base.specs.declared.journals.PlainEntry.TheVariants.{Grab, Reclaim, Release}
pub use Rattle.shr_base.specs.declared.places.Place.{Place}
pub use Rattle.shr_base.specs.declared.places.Serial.{Serial}
pub use Rattle.shr_base.specs.Kept.{Kept}
pub use Rattle.shr_base.specs.declared.walks.PlainTry.{PlainTry}
pub use Rattle.shr_base.specs.declared.walks.PlainWalk.{PlainWalk}
pub use Rattle.shr_deferred.specs.Seat.{DeferredSeated}
pub use Rattle.shr_seats.specs.Standing.{Standing}
pub use Rattle.shr_model.specs.Units.{IsPlainEntry, IsPlainJournal, free_after, free_of}
pub use Rattle.shr_pass.specs.Passes.{CountedBetween, EndedBy, MatchPass, Scans, asks_due, count_of, moves_by}
pub use Rattle.shr_pass.specs.declared.answers.Count.{Count}
pub use Rattle.shr_pass.specs.declared.answers.PassAnswer.{PassAnswer}
pub use Rattle.shr_pass.specs.declared.answers.ScanAnswer.{ScanAnswer}
pub use Rattle.shr_pass.specs.declared.answers.ScanSeen.{ScanSeen}
pub use Rattle.shr_seats.proofs.RoomParts.{here, part_joined, there, twice}
pub use Rattle.shr_seats.specs.RoomTold.{IsCount, IsRecent, IsTold}
pub use Rattle.shr_seats.specs.RoomViews.{RoomCount, RoomMade, RoomView, with_room_count, with_entry, with_room_given, with_room_hand, with_known, with_room_stored}
pub use Rattle.shr_seats.proofs.Weighing.{Each-none, Each-one, Each-weaker, begins_all, begins_more, begins_push}
pub use Rattle.shr_seats.specs.Rows.{place_of_row, row_count, row_of}
pub use Rattle.shr_seats.specs.Views.{Each}
pub use Rattle.shr_seats.specs.declared.rows.Sizes.{Sizes}
pub use Rattle.shr_plain.specs.Answers.{GrabGives, IsJournalWorn, Makes, ReleaseGives, Sees}
pub use Rattle.shr_plain.specs.Counting.{IsReclaimOf, KeepsUnits, ReclaimGives, TellsUnits, WalksUnits, counts_seen, units_kind, units_scan_by, scans_of}
pub use Rattle.shr_plain.specs.Ending.{units_ends, units_end_value, units_ends_below, entries_at}
pub use Rattle.shr_plain.specs.Opening.{setting_by, sizes_for}
pub use Rattle.shr_plain.specs.Rule.{IsPools, room_journal, first_units_view, joined_units_view, new_units_view, part_of, parts_in, spent_units_view, units_standing_in, units, with_part, with_parts, split_units_view}
pub use Rattle.shr_plain.specs.Seat.{ActsPlain, IsPlainSeat, IsUnitSeatOf, PlainSeated, PlainState, UnitSeat, plain_seated, plain_standing, plain_state_of}
pub use Rattle.shr_plain.specs.Settings.{IsPoolOf, IsSetting, home_node, home_place, room_of, setting_of}
pub use Rattle.shr_plain.specs.Taking.{Changes, Counts, HoldsUnitsRoom, Looked, Put, UnitsSat, TakesUnitsRoom}
pub use Rattle.shr_plain.specs.Walks.{AreScans, AreTried, EndsBy, TryHadMemory, PassGives, TryGives, answer_of, units_freed, try_of}
pub use Rattle.shr_plain.specs.declared.settings.Setting.{Setting}
pub use Rattle.shr_plain.specs.declared.slot.Slot.{Slot}
pub use Rattle.shr_plain.specs.declared.view.View.{View}
pub use mathlib.Core.Logic.{dite}
pub use native.Mathlib.Decide.{ℕ_discrete}
