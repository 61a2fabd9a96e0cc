-- SPDX-License-Identifier: GPL-2.0-only
-- The names that the proofs of this crate cite most, passed on from one place. Declares nothing.
pub use Rattle.std.proofs.Common.{Bool, List, [], ap, append_assoc, arith, cond, eq-eqb, eqb, false, get_or, get_or-set_other, get_or-set_same, length, length-append, length-set, lit<, lit≤, ltb, map, ne_eqb, refl, replicate, set, subst, suc, sym, true, zero, ℕ, ⊎_elim, ◌%◌, ◌*◌, ◌++◌, ◌+◌, ◌/◌, ◌<◌, ◌^◌, ◌∙◌, ◌∷◌, ◌≡◌, ◌≢◌, ◌≤◌}
pub use Rattle.std.proofs.lemmas.List.{append-nil, get_or-replicate, length-replicate, map-set, set-get_or}
pub use Rattle.atomic_table.proofs.Lists.{at_map, at_set, exchanged, set_again, set_else, set_here}
pub use Rattle.atomic_table.specs.Table.{Act, Allows, Joins, Me, Splits, State, Valid, carried_after, gives, keeps, opening, stepped, takes}
pub use Rattle.shr_seats.proofs.Seating.{AreSeats-first, AreSeats-join, AreSeats-split, not_gone, sum_by-sole}
pub use Rattle.shr_seats.proofs.Sums.{Each-push, Each-set, Each-weaker, sum_by-changed, sum_by-joined, sum_by-map, sum_by-more, term_le, terms_le}
pub use Rattle.shr_seats.proofs.Weighing.{Each-append, Each-cons, Each-none, Each-one}
pub use Rattle.shr_seats.specs.Standing.{AreSeats, IsWhole, Standing, at_end, at_first, at_split, with_join, with_split}
pub use Rattle.shr_seats.specs.Views.{Each}
pub use Rattle.shr_seats.specs.Weights.{Begins}
pub use Rattle.shr_seats.specs.RoomRule.{FitsCountWord, CountsPrefix, IsJournal, IsEntryMade, IsRoomSound, IsRoomSeen, AreRoomsSound, Law, count_index, holds_it, lock_index, times_made}
pub use Rattle.shr_seats.specs.RoomTold.{IsCount, IsRecent, IsTold}
pub use Rattle.shr_seats.specs.RoomViews.{RoomCount, RoomMade, RoomView, heard_of, joined_room, no_room, part_at, with_room_count, with_room_given, with_room_hand, with_part_at, with_room_stored}
pub use lib.ListN.{get_elem?}
pub use mathlib.Core.Option.{Option, none, some}
