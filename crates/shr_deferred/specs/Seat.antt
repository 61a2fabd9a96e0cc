-- SPDX-License-Identifier: GPL-2.0-only
-- Seats of the deferred table, and what a call gains on one.
use Rattle.std.specs.Prelude.{◌≡◌, ℕ, true, List, [], ◌++◌}
use Rattle.atomic_table.specs.declared.shared.Seat.{Seat}
use Rattle.shr_seats.specs.Standing.{Standing, IsSeatOf}
use Rattle.shr_seats.specs.Lines.{Deed, by_seat, acts_of}
use Rattle.shr_deferred.specs.declared.view.View.{View}
use Rattle.shr_deferred.specs.declared.table.Deferred.{Deferred}
use Rattle.shr_deferred.specs.declared.table.FirstDeferredSeat.{FirstDeferredSeat}
use Rattle.shr_deferred.specs.Moves.{Move, Moves, both}
use Rattle.shr_deferred.specs.Rule.{strands_in}

-- a seat as the table's steps know it; there are no slots
abbrev pub Token : Type 0
Token = Seat (Unit {0}) View

-- a seat as contracts see it: its table, its number there, and what it knows
pub record DeferredSeated : Type 0 where
  pub deferred : Deferred
  pub id : ℕ
  pub view : View

-- what the seat did, and the seats that were joined into it
abbrev pub did_of : DeferredSeated → List (Deed Move)
did_of s = s.view.did

-- what was taken and given by them
abbrev pub moves_of : DeferredSeated → Moves
moves_of s = acts_of s.view.did

-- what was taken and given by it alone
abbrev pub own_of : DeferredSeated → Moves
own_of s = s.view.own

-- what it took and gave, and then what each seat did that was joined into it, in the order of the joins
abbrev pub strands_of : DeferredSeated → List Moves
strands_of s = strands_in s.view

-- its place among the seats
abbrev pub deferred_standing : DeferredSeated → Standing
deferred_standing s = s.view.standing

-- a seat of this table, which was not joined away
pub record IsDeferredSeat (d : Deferred) (s : Token) : Type 0 where
  pub seat : IsSeatOf d.table.shared.table_id s.table_id s.me.0.standing
  -- the table has no slots to hold
  pub bare : s.me.1 ≡ []

-- what the first seat knows while nobody sits at it
abbrev pub first_deferred : FirstDeferredSeat → View
first_deferred f = f.token.me.0

-- it is the first seat of this table
pub record IsFirstDeferredOf (d : Deferred) (f : FirstDeferredSeat) : Type 0 where
  pub seat : IsDeferredSeat d f.token
  pub first : (first_deferred f).standing.first ≡ true

-- the first seat at its table
abbrev pub first_seated : Deferred → FirstDeferredSeat → DeferredSeated
first_seated d f = record { deferred = d; id = f.token.id; view = first_deferred f }

-- the seat took and gave these, and nothing else of it changed
pub record GainsMoves (old new : DeferredSeated) (more : Moves) : Type 0 where
  pub deferred : new.deferred ≡ old.deferred
  pub id : new.id ≡ old.id
  pub did : did_of new ≡ did_of old ++ by_seat old.id more
  pub moves : moves_of new ≡ both (moves_of old) more
  pub own : own_of new ≡ both (own_of old) more
  pub joined : new.view.joined ≡ old.view.joined
  pub standing : deferred_standing new ≡ deferred_standing old
