-- SPDX-License-Identifier: GPL-2.0-only
-- What carrying a group's deferred work to its parent's places moves.
use Rattle.std.specs.Prelude.{◌≡◌, ℕ, ◌%◌, ◌^◌, ◌==◌, cond, List, [], ◌∷◌, ◌++◌, map, flat_map, sum}
use Rattle.shr_base.specs.declared.ends.PlaceAmount.{PlaceAmount}
use Rattle.shr_base.specs.declared.places.Place.{Place}
use Rattle.shr_base.specs.declared.places.Serial.{Serial}
use Rattle.shr_base.specs.declared.walks.Carry.{Carry}
use Rattle.shr_model.specs.Deferred.{amount_of}
use Rattle.shr_model.specs.Groups.{parent_of}
use Rattle.shr_seats.specs.declared.shape.Shape.{Shape}
use Rattle.shr_deferred.specs.Seat.{DeferredSeated, GainsMoves}
use Rattle.shr_deferred.specs.Moves.{Moves, took, gave, both, no_moves}
use Rattle.shr_offline.specs.Splices.{first_places}

-- the place of the parent group at the same id and node
abbrev pub above_of : Shape → Place → Place
above_of shape p = record p { group = parent_of shape.parents.items p.group }

-- one take of what was there, and one give of it above where it isn't 0
abbrev pub carry_move : Place → PlaceAmount → Moves
carry_move above a = took a ∷ cond (a.amount == 0) [] (gave (amount_of above a.amount) ∷ [])

-- the moves of these takes, one after another
abbrev pub carry_moves : Shape → List PlaceAmount → Moves
carry_moves shape [] = no_moves
carry_moves shape (a ∷ others) = both (carry_move (above_of shape a.place) a) (carry_moves shape others)

-- what is noted of a take: nothing where it was 0
abbrev pub carry_noted : Serial → PlaceAmount → List Carry
carry_noted by a = cond (a.amount == 0) [] (record { by = by; place = a.place; amount = a.amount } ∷ [])

-- what is noted of these takes, in order
abbrev pub carries_noted : Serial → List PlaceAmount → List Carry
carries_noted by amounts = flat_map (carry_noted by) amounts

-- the place of an amount
abbrev pub amount_place : PlaceAmount → Place
amount_place a = a.place

-- how much there was at its place
abbrev pub amount_taken : PlaceAmount → ℕ
amount_taken a = a.amount

-- One take at each of the group's first places, in order; each amount above 0 was given to the
-- place above, and noted.
pub record AreCarried (shape : Shape) (by : Serial) (group n total : ℕ) (old new : DeferredSeated) (before after : List Carry) : Type 0 where
  pub amounts : List PlaceAmount
  pub places : map amount_place amounts ≡ first_places shape group n
  pub moved : GainsMoves old new (carry_moves shape amounts)
  pub noted : after ≡ before ++ carries_noted by amounts
  pub total_is : total ≡ sum (map amount_taken amounts) % 2 ^ 64

-- the same over what a worker's seats have moved and noted
pub record AreCarriedBy (shape : Shape) (by : Serial) (group n total : ℕ) (old new : Moves) (before after : List Carry) : Type 0 where
  pub amounts : List PlaceAmount
  pub places : map amount_place amounts ≡ first_places shape group n
  pub moved : new ≡ both old (carry_moves shape amounts)
  pub noted : after ≡ before ++ carries_noted by amounts
  pub total_is : total ≡ sum (map amount_taken amounts) % 2 ^ 64
