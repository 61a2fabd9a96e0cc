-- SPDX-License-Identifier: GPL-2.0-only
-- What the tables leave once all other seats were joined into the first.
use Rattle.std.specs.Prelude.{◌≡◌, ℕ, zero, suc, ◌<◌, List, [], ◌∷◌, ◌++◌, map}
use mathlib.Core.Option.{Option, none, some}
use lib.ListN.{get_elem?}
use Rattle.shr_base.specs.declared.ends.UnitsEnd.{UnitsEnd}
use Rattle.shr_base.specs.declared.journals.PlainEntry.{PlainEntry}
use Rattle.shr_base.specs.declared.places.Place.{Place}
use Rattle.shr_model.specs.Units.{free_of}
use Rattle.shr_deferred.specs.Left.{left_over}
use Rattle.shr_seats.specs.RoomLeft.{IsRoomLeft}
use Rattle.shr_seats.specs.RoomViews.{part_at}
use Rattle.shr_seats.specs.Rows.{place_of_row, row_count}
use Rattle.shr_seats.specs.declared.rows.Sizes.{Sizes}
use Rattle.shr_plain.specs.declared.ending.PoolsEnd.{PoolsEnd}
use Rattle.shr_plain.specs.declared.slot.Slot.{Slot}
use Rattle.shr_plain.specs.Rule.{units, room_journal}
use Rattle.shr_plain.specs.Seat.{PlainState}

-- an end of a pool on a node, without the spare of its journal
pub record UnitsEndValue : Type 0 where
  pub pool : ℕ
  pub node : ℕ
  pub entries : List PlainEntry
  pub free : ℕ

-- what a record of the end says
abbrev pub units_end_value : UnitsEnd → UnitsEndValue
units_end_value end = record { pool = end.pool; node = end.node; entries = end.entries.items; free = end.free }

-- the end of a pool on a node with this journal, if it has an entry
abbrev pub units_ends : Place → List PlainEntry → List UnitsEndValue
units_ends place [] = []
units_ends place (e ∷ es) = record { pool = place.id; node = place.node; entries = e ∷ es; free = free_of (e ∷ es) } ∷ []

-- the ends in the lower rows that have an entry, in the order of their rows
unfoldable pub units_ends_below : Sizes → ℕ → (ℕ → List PlainEntry) → List UnitsEndValue
units_ends_below z zero entries = []
units_ends_below z (suc row) entries = units_ends_below z row entries ++ units_ends (place_of_row z row) (entries row)

-- the journal in a slot, empty if there is no slot
abbrev pub slot_journal : Option Slot → List PlainEntry
slot_journal none = []
slot_journal (some slot) = room_journal slot

-- the journal in the slot of a row
abbrev pub entries_at : List Slot → ℕ → List PlainEntry
entries_at slots row = slot_journal (get_elem? slots row)

-- What is left by the first seat: the journal of each room is what it made, and is told with its
-- free units where it has an entry; the deferred words are what it gave less what it took.
pub record IsPoolsEnd (z : Sizes) (s : PlainState) (end : PoolsEnd) : Type 0 where
  pub journal : ℕ → List PlainEntry
  pub rooms : (i : ℕ) → i < row_count z → IsRoomLeft units (journal i) (part_at s.rooms i)
  pub units : map units_end_value end.units.items ≡ units_ends_below z (row_count z) journal
  pub deferred : end.pool_deferred.items ≡ left_over z s.moves
