-- SPDX-License-Identifier: GPL-2.0-only
-- The rule of the table of pools.
use Rattle.std.specs.Prelude.{ℕ, List, []}
use Rattle.atomic_table.specs.Table.{State}
use Rattle.shr_base.specs.declared.journals.PlainEntry.{PlainEntry}
use Rattle.shr_model.specs.Units.{IsPlainEntry, free_of}
use Rattle.shr_seats.specs.Rows.{row_count}
use Rattle.shr_seats.specs.declared.rows.Sizes.{Sizes}
use Rattle.shr_seats.specs.Standing.{Standing, at_first, at_split, at_end, with_split, with_join}
use Rattle.shr_seats.specs.RoomViews.{RoomView, part_at, with_part_at, joined_parts}
use Rattle.shr_seats.specs.RoomRule.{Law, AreRoomsSound}
use Rattle.shr_plain.specs.declared.slot.Slot.{Slot}
use Rattle.shr_plain.specs.declared.view.View.{View}

-- The law of these journals: each entry has the outcome that those before it leave it, the count
-- word counts the free units, and there are 2^31 entries at most.
abbrev pub units : Law PlainEntry
units = record { may = IsPlainEntry; len = free_of; most = 2147483648 }

-- the journal that a room holds
abbrev pub room_journal : Slot → List PlainEntry
room_journal slot = slot.journal.items

-- what a view did and saw in each room
abbrev pub parts_in : View → List (RoomView PlainEntry)
parts_in v = v.rooms

-- where a view stands among the seats
abbrev pub units_standing_in : View → Standing
units_standing_in v = v.standing

-- what a view did and saw in one room
abbrev pub part_of : View → ℕ → RoomView PlainEntry
part_of v i = part_at v.rooms i

-- the view with other parts, or with another part of one room
abbrev pub with_parts : View → List (RoomView PlainEntry) → View
with_parts v parts = record v { rooms = parts }

-- the view with one room changed
abbrev pub with_part : View → ℕ → RoomView PlainEntry → View
with_part v i t = with_parts v (with_part_at v.rooms i t)

-- the view of the first seat of a new table
abbrev pub first_units_view : View
first_units_view = record { rooms = []; standing = at_first }

-- the view of a seat that was split off
abbrev pub new_units_view : View
new_units_view = record { rooms = []; standing = at_split }

-- what is left of the view of a seat that was joined into the first
abbrev pub spent_units_view : View
spent_units_view = record { rooms = []; standing = at_end }

-- the first view, split once more
abbrev pub split_units_view : View → View
split_units_view v = record v { standing = with_split v.standing }

-- the first view, with what another did and saw that was joined into it
abbrev pub joined_units_view : View → View → View
joined_units_view v u = record { rooms = joined_parts v.rooms u.rooms; standing = with_join v.standing }

-- the rule of the table, which holds between any two steps: that of each room
abbrev pub IsPools : Sizes → State Slot View → Type 0
IsPools z s = AreRoomsSound units room_journal parts_in units_standing_in spent_units_view (row_count z) s
