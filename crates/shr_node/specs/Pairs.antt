-- SPDX-License-Identifier: GPL-2.0-only
-- A child's room and its parent's in one hand. No public clause cites this.
use Rattle.std.specs.Prelude.{◌≡◌, ◌<◌}
use Rattle.shr_base.specs.declared.places.Place.{Place}
use Rattle.shr_model.specs.PlaceNumbers.{place_number}
use Rattle.shr_model.specs.Places.{at_group}
use Rattle.shr_model.specs.Groups.{parent_of}
use Rattle.shr_list.specs.Listed.{Listed}
use Rattle.shr_core.specs.declared.view.View.{View}
use Rattle.shr_seats.specs.declared.shape.Shape.{Shape}
use Rattle.shr_core.specs.declared.rooms.Room.{Room}
use Rattle.shr_core.specs.Parts.{no_rooms}
use Rattle.shr_core.specs.Rule.{list_content}
use Rattle.shr_core.specs.Seats.{IsPlaceOfShape}
use Rattle.shr_core.specs.Steps.{IsTaken, with_taken, with_given}

-- both rooms were taken, the child's first, with these lists
pub record AreBothTaken (shape : Shape) (before v : View) (child above : Place) (old old_above : Listed) : Type 0 where
  pub none : before.holding ≡ no_rooms
  pub taken : v ≡ with_taken (with_taken before (place_number child) (list_content old)) (place_number above) (list_content old_above)
  pub child_place : IsPlaceOfShape shape child
  pub above_place : IsPlaceOfShape shape above
  pub low : 0 < child.group
  pub parent : above ≡ at_group child (parent_of shape.parents.items child.group)
  pub told : IsTaken shape before (place_number child) (list_content old)
  pub told_above : IsTaken shape (with_taken before (place_number child) (list_content old)) (place_number above) (list_content old_above)

-- the view once both rooms were given back
abbrev pub with_both_left : View → Room → Room → View
with_both_left v child above = with_given (with_given v (place_number above.place)) (place_number child.place)
