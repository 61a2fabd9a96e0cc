-- SPDX-License-Identifier: GPL-2.0-only
-- What a seat took from the deferred words, and what it gave to them, in one order.
use Rattle.std.specs.Prelude.{ℕ, List, [], ◌∷◌, ◌++◌}
use Rattle.shr_base.specs.declared.places.Place.{Place}
use Rattle.shr_base.specs.declared.ends.PlaceAmount.{PlaceAmount}
use Rattle.shr_model.specs.Deferred.{amount_of}

-- one step on a deferred word: all that was there was taken, or some was given
pub data Move : Type 0 where
  took : PlaceAmount → Move
  gave : PlaceAmount → Move

-- moves in order, amounts of 0 too
abbrev pub Moves : Type 0
Moves = List Move

-- nothing taken and nothing given
abbrev pub no_moves : Moves
no_moves = []

-- one take of n at p
abbrev pub take_of : Place → ℕ → Moves
take_of p n = took (amount_of p n) ∷ []

-- one give of n at p
abbrev pub give_of : Place → ℕ → Moves
give_of p n = gave (amount_of p n) ∷ []

-- the moves of both, those of m first
abbrev pub both : Moves → Moves → Moves
both m k = m ++ k

-- the takes among them, in order
abbrev pub takes_of : Moves → List PlaceAmount
takes_of [] = []
takes_of (took x ∷ m) = x ∷ takes_of m
takes_of (gave x ∷ m) = takes_of m

-- the gives among them, in order
abbrev pub gives_of : Moves → List PlaceAmount
gives_of [] = []
gives_of (took x ∷ m) = gives_of m
gives_of (gave x ∷ m) = x ∷ gives_of m
