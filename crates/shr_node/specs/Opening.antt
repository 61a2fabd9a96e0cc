-- SPDX-License-Identifier: GPL-2.0-only
-- The list on which a call acts.
use Rattle.std.specs.Prelude.{◌≡◌, ℕ, ◌<◌, [], length, false, None}
use Rattle.shr_base.specs.declared.places.Place.{Place}
use Rattle.shr_base.specs.declared.journals.Entry.{Entry}
use Rattle.shr_model.specs.PlaceNumbers.{place_number}
use Rattle.shr_model.specs.Places.{at_group}
use Rattle.shr_model.specs.Groups.{IsAtOrAbove}
use Rattle.shr_model.specs.Items.{is_closed, HasJournal}
use Rattle.shr_list.specs.Listed.{Listed}
use Rattle.shr_core.specs.declared.view.View.{View}
use Rattle.shr_seats.specs.declared.shape.Shape.{Shape}
use Rattle.shr_core.specs.declared.rooms.Room.{Room}
use Rattle.shr_core.specs.Parts.{Made}
use Rattle.shr_core.specs.Rule.{has_room, list_content}
use Rattle.shr_core.specs.Steps.{IsCounted, IsTaken, with_taken, in_hand, last_entry, half_after, MayStore}
use Rattle.shr_core.specs.Seats.{IsPlaceOfShape}
use Rattle.shr_core.specs.Tells.{IsInHand}
use Rattle.shr_node.specs.Gains.{Gains, Knows, KnowsClosed}

-- a place's list is that of the first group, from the birth group up, whose list is not closed
pub record IsFirstOpen (shape : Shape) (w : View) (id node birth : ℕ) (place : Place) : Type 0 where
  pub same_id : place.id ≡ id
  pub same_node : place.node ≡ node
  pub above : IsAtOrAbove shape.parents.items place.group birth
  -- the seat knows that the list of each group below it on the way is closed
  pub below : (group : ℕ) → IsAtOrAbove shape.parents.items group birth → place.group < group → KnowsClosed w (place_number (at_group place group))

-- An open list as it was in hand: its limits are those of the core, its journal is at least as long
-- as all that the seat knew, had made and had seen there, and its objects are what the journal
-- leaves
pub record WasOpen (shape : Shape) (v : View) (k : ℕ) (old : Listed) : Type 0 where
  pub «open» : is_closed old.entries ≡ false
  pub most_items : old.most_items ≡ shape.most_items
  pub most_entries : old.most_entries ≡ shape.most_entries
  pub later : IsCounted shape v k (length old.items) (length old.entries)
  pub journal : HasJournal old.entries old.items

-- an open list was met as this, and the seat knows its journal now
pub record WasMet (shape : Shape) (v w : View) (k : ℕ) (old : Listed) : Type 0 where
  pub was : WasOpen shape v k old
  pub known : Knows w k old.entries

-- what is made of an entry that a list gains
abbrev pub entry_made : ℕ → Listed → Entry → Made
entry_made k old e = record { place = k; number = length old.entries; entry = e; items = old.items }

-- the rooms of the closed lists on the way were given back, and the seat has the first open one's
-- in hand
pub record IsOpened (shape : Shape) (v w : View) (id node birth : ℕ) (room : Room) : Type 0 where
  pub before : View
  pub gains : Gains v before [] []
  pub first : IsFirstOpen shape before id node birth room.place
  pub taken : w ≡ with_taken before (place_number room.place) (list_content room.list)
  pub told : IsTaken shape before (place_number room.place) (list_content room.list)
  pub «open» : is_closed room.list.entries ≡ false

-- a room in hand, whose list has one entry more that may be stored, and which can be given back
-- then
pub record IsRoomReady (shape : Shape) (v : View) (room : Room) : Type 0 where
  pub place : IsPlaceOfShape shape room.place
  pub may : MayStore shape v (place_number room.place) room.list
  pub most_items : room.list.most_items ≡ (in_hand v (place_number room.place)).most_items
  pub most_entries : room.list.most_entries ≡ (in_hand v (place_number room.place)).most_entries
  pub whole : half_after v.holding.half (place_number room.place) (last_entry room.list.entries) ≡ None

-- a room in hand that is as it was taken, and can be given back
pub record IsUntouched (shape : Shape) (v : View) (room : Room) : Type 0 where
  pub place : IsPlaceOfShape shape room.place
  pub has : 0 < has_room (place_number room.place) v.holding
  pub same : IsInHand room.list (in_hand v (place_number room.place))
  pub whole : v.holding.half ≡ None
