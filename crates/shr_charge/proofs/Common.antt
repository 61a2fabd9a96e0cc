-- SPDX-License-Identifier: GPL-2.0-only
-- The names that the proofs of this crate cite most, passed on from one place. Declares nothing.
pub use Rattle.std.proofs.Common.{Bool, List, [], add-one, ap, append_assoc, arith, cond, drop, eq-eqb, eqb, false, get_or, get_or-set_other, get_or-set_same, inl, inr, length, length-append, length-set, ltb, map, min, ne_eqb, not, refl, replicate, set, subst, suc, sym, take, true, zero, ℕ, ⊎_elim, ◌%◌, ◌&&◌, ◌*◌, ◌++◌, ◌+◌, ◌-◌, ◌/◌, ◌<◌, ◌^◌, ◌||◌, ◌∙◌, ◌∷◌, ◌≡◌, ◌≢◌, ◌≤◌, ◌⊎◌}
pub use Rattle.std.proofs.lemmas.Bool.{cases_Bool, cases_lt, eqb-true}
pub use Rattle.std.proofs.lemmas.Bool.Decides.{nat_tests}
pub use Rattle.std.proofs.lemmas.List.{append-nil, get_or-replicate, length-map, length-replicate, length-take-le, map-append, map-set, map_push, set-get_or, take-append-drop, take-append-le, take_all}
pub use Rattle.std.proofs.lemmas.List.Elements.{All-append, All-cons, All-contains, All-get_or, All-head, All-nil, All-push, All-tail, All-weaker}
pub use Rattle.std.proofs.lemmas.List.Sums.{sum_by-append, sum_by-cons, sum_by_push}
pub use Rattle.std.proofs.lemmas.Option.{none-some, same_Some}
pub use Rattle.std.specs.List.{position_from, range_with_len}
pub use Rattle.std.specs.Mem.Slots.{slots_items}
pub use Rattle.std.specs.Option.{IsSome, is_none, is_some, option_or}
pub use Rattle.std.specs.Prelude.{All, Contains, Err, None, Ok, OnOk, Option, Result, Some, find, is_err, pos, slice_get, sum_by, ◌-ℤ◌, ◌<ℤ◌}
pub use Rattle.atomic_table.proofs.Lists.{at_map, at_set, exchanged, set_again, set_else, set_here}
pub use Rattle.atomic_table.specs.Table.{Act, Allows, Final, Joins, Seen, Splits, State, Valid, carried_after, gives, keeps, opening, rest, stepped, takes}
pub use Rattle.shr_base.specs.Kept.{Kept}
pub use Rattle.shr_base.specs.declared.journals.TreeEntry.{TreeEntry}
pub use Rattle.shr_base.specs.declared.journals.TreeEntry.TheVariants.{Begin, Done, Made}
pub use Rattle.shr_base.specs.declared.journals.UseStep.{UseStep}
pub use Rattle.shr_base.specs.declared.places.Serial.{Serial}
pub use Rattle.shr_model.specs.Charges.{IsBelow, IsChargeHistory, IsNextUse, downs, ups}
pub use Rattle.shr_model.specs.Groups.{Hierarchy, IsAtOrAbove, is_child, is_later, parent_of, path_of}
pub use Rattle.shr_model.specs.Trees.{IsHierarchy, IsTree, depth_of}
pub use Rattle.shr_model.specs.TreeJournal.{IsTreeJournal, MayBeDone, MayBeMade, MayBegin, MayFollow, begin_of, done_of, is_begin, is_done, is_made, is_making, is_undone_child, made_of}
pub use Rattle.shr_seats.proofs.Seating.{AreSeats-first, AreSeats-join, AreSeats-split, not_gone, sum_by-sole}
pub use Rattle.shr_seats.proofs.Sums.{Each-push, Each-set, Each-weaker, range_same, sum_by-changed, sum_by-joined, sum_by-map, sum_by-more, term_le, terms_le}
pub use Rattle.shr_seats.specs.Shapes.{hierarchy_of}
pub use Rattle.shr_seats.specs.Standing.{AreSeats, IsWhole, at_end, at_first, at_split}
pub use Rattle.shr_seats.specs.Views.{Each}
pub use Rattle.shr_seats.specs.declared.shape.Shape.{Shape}
pub use Rattle.shr_charge.specs.Charging.{AreRising, Charges, IsDown, IsLaterThan, IsNoted, IsUp, calls_with, call_count, use_group, shape_limit}
pub use Rattle.shr_charge.specs.Loops.{Climbs, IsClimbing, IsLowering, Lowers}
pub use Rattle.shr_charge.specs.Offlining.{IsHeard, IsHome, IsTreeEntryMade, IsNamed, IsOfflined, IsPrefix, IsTreeSeen, WasState, begun_state, count_of_entries, is_open, opens, state_at, sum_below, times_noted, state_word}
pub use Rattle.shr_charge.specs.Opening.{AreFirstGroupWords}
pub use Rattle.shr_charge.specs.Paths.{path_to}
pub use Rattle.shr_charge.specs.Rooms.{Decides, HoldsTreeRoom, Settles, Shown, hand_by, hand_made}
pub use Rattle.shr_charge.specs.Rule.{IsChargeSound, first_charge_view, group_in, group_index, joined_charge_view, lock_in, new_charge_view, spent_charge_view, charge_standing_in, tree_in, usage_in, usage_index, uses_in, split_charge_view}
pub use Rattle.shr_charge.specs.Searching.{AreMarkedGroups, is_like, entry_number}
pub use Rattle.shr_charge.specs.Seat.{ChargeSeated, IsChargeSeat, IsFirstChargeOf, IsTokenOf, ChargeToken, counted, first_seated, seated_at, spent_by, standing_of, tree_of, uses_of}
pub use Rattle.shr_charge.specs.Steps.{joined_tree, with_begin, with_done, with_tree_given, with_tree_hand, with_load, with_made}
pub use Rattle.shr_charge.specs.Told.{IsWord, ChargeSat, Shows, TakesTreeRoom, TellsUse, is_there, state_in, with_tree, with_uses, with_room_back}
pub use Rattle.shr_charge.specs.Uses.{AreUsed, UseHistories, IsPaced, StandsInHistory, downs_at, grown, op_of, times_at, ups_at, usage_word}
pub use Rattle.shr_charge.specs.Views.{TreeView, Uses, both_uses, no_tree, no_uses, one_use, own_uses}
pub use Rattle.shr_charge.specs.declared.answers.GroupState.{GroupState}
pub use Rattle.shr_charge.specs.declared.answers.GroupState.TheVariants.{NotMade, Offline, Online}
pub use Rattle.shr_charge.specs.declared.table.Charge.{Charge}
pub use Rattle.shr_charge.specs.declared.view.View.{View}
pub use lib.ListN.{get_elem?}
pub use mathlib.Core.Option.{none, some, some-injective, some-ne-none}
pub use mir.Val.{bool_byte}
