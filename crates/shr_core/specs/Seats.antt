-- SPDX-License-Identifier: GPL-2.0-only
-- What contracts see of a seat.
use Rattle.std.specs.Prelude.{◌≡◌, ◌⊎◌, ℕ, ◌/◌, ◌%◌, ◌<◌, List, [], ◌∷◌, map, length, Option, Some, None, true}
use Rattle.atomic_table.specs.Table.{rest}
use Rattle.shr_model.specs.PlaceNumbers.{place_number}
use Rattle.shr_model.specs.Groups.{is_child}
use Rattle.shr_model.specs.Pool.{phase_of, decl_of}
use Rattle.shr_base.specs.declared.journals.PoolEntry.{PoolEntry}
use Rattle.shr_base.specs.declared.places.Place.{Place}
use Rattle.shr_seats.specs.Rows as rows
use Rattle.shr_core.specs.declared.table.Core.{Core}
use Rattle.shr_core.specs.declared.seat.FirstSeat.{FirstSeat}
use Rattle.shr_core.specs.declared.seat.Met.{Met}
use Rattle.shr_core.specs.declared.seat.InHand.{InHand}
use Rattle.shr_core.specs.declared.seat.InHand.TheVariants.{Nothing, One, Two}
use Rattle.shr_seats.specs.declared.shape.Shape.{Shape}
use Rattle.shr_core.specs.Slots.{Slot}
use Rattle.shr_core.specs.declared.view.View.{View}
use Rattle.shr_core.specs.Parts.{Hand, Claims}
use Rattle.shr_core.specs.Layout.{group_of, row_in}
use Rattle.shr_seats.specs.Shapes.{sizes_of}

-- a seat at its core: the core, and the seat's view
pub record Seated : Type 0 where
  pub core : Core
  pub view : View

-- a seat's view: what it is known to have done and seen
abbrev pub view_of : Seated → View
view_of seat = seat.view

-- the view of the first seat while it isn't at its core
abbrev pub first_view : FirstSeat → View
first_view first = first.token.me.0

-- the sizes of a core
abbrev pub shape_of : Core → Shape
shape_of core = core.setting.shape

-- a place is of the core's shape
abbrev pub IsPlaceOfShape : Shape → Place → Type 0
IsPlaceOfShape shape place = rows.IsPlaceOf (sizes_of shape) place

-- the numbers of the rooms in hand, the one taken last first
abbrev pub numbers_of : InHand → List ℕ
numbers_of Nothing = []
numbers_of (One room) = room ∷ []
numbers_of (Two last first) = last ∷ first ∷ []

-- the numbers of the rooms that a view has in hand, the one taken last first
abbrev pub room_numbers : View → List ℕ
room_numbers v = map (λ (h : Hand). h.room) v.holding.hands

-- the slots of the rooms that a view has in hand
abbrev pub room_rows : Shape → View → List ℕ
room_rows shape v = map (row_in (sizes_of shape)) (room_numbers v)

-- the numbers of the slots that a seat of the table has taken
abbrev pub slot_numbers : List (ℕ × Slot) → List ℕ
slot_numbers slots = map (λ (x : ℕ × Slot). x.0) slots

-- what the seat says that it holds is what its view holds
abbrev pub IsHolding : ℕ → Option ℕ → Claims → Type 0
IsHolding ids None c = c.held ≡ None
IsHolding ids (Some id) c = (c.held ≡ Some id) × (id < ids)

-- What a seat met of a registration is so by all that it knows of the pool's journal: the id is live
-- in this phase with the declaration, and there are so many entries.
pub record IsMet (shape : Shape) (known : List PoolEntry) (met : Met) : Type 0 where
  pub near : met.id < shape.ids
  pub phase : met.phase ≡ phase_of met.id known
  pub live : met.phase % 3 ≡ 1
  pub named : met.decl ≡ decl_of met.id known
  pub after : met.entry ≡ length known

-- what a seat keeps of a registration, where it keeps one
abbrev pub IsMeeting : Shape → List PoolEntry → Option Met → Type 0
IsMeeting shape known None = Unit {0}
IsMeeting shape known (Some met) = IsMet shape known met

-- a seat has no room in hand, or only that of a child of the place's group at the same id and node
abbrev pub MayTake : Shape → View → Place → Type 0
MayTake shape v place = (v.holding.hands ≡ []) ⊎ ((h : Hand) × (v.holding.hands ≡ h ∷ []) × (h.room / 256 ≡ place_number place / 256) × (is_child shape.parents.items place.group (group_of h.room) ≡ true))

-- the slot that was taken last is this one
abbrev pub HasFirst : List (ℕ × Slot) → ℕ → Type 0
HasFirst slots k = (old : Slot) × (slots ≡ (k, old) ∷ rest slots)
