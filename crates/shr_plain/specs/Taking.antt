-- SPDX-License-Identifier: GPL-2.0-only
-- What a seat of the table of rooms has and knows, while it has a room in hand and after.
use Rattle.std.specs.Prelude.{◌≡◌, ℕ, List, [], ◌∷◌}
use Rattle.atomic_table.specs.Table.{Me}
use Rattle.shr_base.specs.declared.journals.PlainEntry.{PlainEntry}
use Rattle.shr_seats.specs.RoomViews.{with_room_hand, with_known, with_entry, with_room_count}
use Rattle.shr_seats.specs.RoomTold.{IsTold, IsCount}
use Rattle.shr_plain.specs.declared.slot.Slot.{Slot}
use Rattle.shr_plain.specs.declared.view.View.{View}
use Rattle.shr_plain.specs.Rule.{units, with_part, part_of}
use Rattle.shr_plain.specs.Seat.{UnitSeat}

-- a seat as the table knows it: its view, and the rooms that it has taken
abbrev pub UnitsSat : Type 0
UnitsSat = Me Slot View

-- it is the same seat, and what it knows and has changed by R
pub record Changes (R : UnitsSat → UnitsSat → Type 0) (s t : UnitSeat) : Type 0 where
  pub same : t ≡ record s { me = t.me }
  pub did : R s.me t.me

-- the room was taken: its journal is right and holds what the seat knows
pub record TakesUnitsRoom (i : ℕ) (m r : UnitsSat) : Type 0 where
  pub room : Slot
  pub seat : r ≡ (with_part m.0 i (with_room_hand (part_of m.0 i) room.journal.items), (i, room) ∷ [])
  pub told : IsTold units (part_of m.0 i) room.journal.items

-- a seat that has the room in hand, with this journal, and nothing else
pub record HoldsUnitsRoom (i : ℕ) (old new : UnitsSat) (journal : List PlainEntry) : Type 0 where
  pub view : new.0 ≡ with_part old.0 i (with_room_hand (part_of old.0 i) journal)
  pub slot : (left : Slot) × (new.1 ≡ (i, left) ∷ [])
  pub told : IsTold units (part_of old.0 i) journal

-- the room was taken with this journal, and given back as it was
pub record Looked (i : ℕ) (m r : UnitsSat) (journal : List PlainEntry) : Type 0 where
  pub seat : r ≡ (with_part m.0 i (with_known (part_of m.0 i) journal), [])
  pub told : IsTold units (part_of m.0 i) journal

-- the room was taken with this journal, and given back with one entry more
pub record Put (i : ℕ) (m r : UnitsSat) (journal : List PlainEntry) (e : PlainEntry) : Type 0 where
  pub seat : r ≡ (with_part m.0 i (with_entry (part_of m.0 i) journal e), [])
  pub told : IsTold units (part_of m.0 i) journal

-- the count word of the room was loaded: so many units are free after so many entries
pub record Counts (i : ℕ) (m r : UnitsSat) (len version : ℕ) : Type 0 where
  pub seat : r ≡ (with_part m.0 i (with_room_count (part_of m.0 i) len version), m.1)
  pub count : IsCount units (part_of m.0 i) len version
