-- SPDX-License-Identifier: GPL-2.0-only
-- Seats of the pools, and what contracts see of them.
use Rattle.std.specs.Prelude.{◌≡◌, ℕ, true, false, List, []}
use Rattle.atomic_table.specs.declared.shared.Seat.{Seat}
use Rattle.shr_base.specs.declared.journals.PlainEntry.{PlainEntry}
use Rattle.shr_base.specs.declared.walks.PlainWalk.{PlainWalk}
use Rattle.shr_base.specs.Kept.{Kept}
use Rattle.shr_seats.specs.Lines.{acts_of}
use Rattle.shr_seats.specs.Standing.{Standing, IsSeatOf, IsWhole, at_split, with_split, with_join}
use Rattle.shr_deferred.specs.Moves.{Moves, no_moves, both}
use Rattle.shr_deferred.specs.Seat as deferred
use Rattle.shr_seats.specs.RoomViews.{RoomView, joined_parts}
use Rattle.shr_plain.specs.declared.table.Pools.{Pools}
use Rattle.shr_plain.specs.declared.table.FirstPlainSeat.{FirstPlainSeat}
use Rattle.shr_plain.specs.declared.slot.Slot.{Slot}
use Rattle.shr_plain.specs.declared.view.View.{View}
use Rattle.shr_plain.specs.Rule.{part_of}

-- a seat of the table of rooms
abbrev pub UnitSeat : Type 0
UnitSeat = Seat Slot View

-- what a seat did and saw in each room, what it took from the deferred words and gave to them, and
-- its walks
pub record PlainState : Type 0 where
  pub rooms : List (RoomView PlainEntry)
  pub moves : Moves
  pub walks : List PlainWalk

-- nothing done or seen
abbrev pub no_state : PlainState
no_state = record { rooms = []; moves = no_moves; walks = [] }

-- a seat as contracts see it: its pools, what it did and saw, where it stands among the seats of the rooms and among those of
-- the deferred words, and how many walks it can note without memory
pub record PlainSeated : Type 0 where
  pub pools : Pools
  pub state : PlainState
  pub standing : Standing × Standing
  pub spare : ℕ

-- what a seat did and saw
abbrev pub plain_state_of : PlainSeated → PlainState
plain_state_of s = s.state

-- where it stands among the seats of the rooms, and among those of the deferred words
abbrev pub plain_standing : PlainSeated → Standing × Standing
plain_standing s = s.standing

-- its walks, with the room for more
abbrev pub plain_walks_of : PlainSeated → Kept PlainWalk
plain_walks_of s = record { items = s.state.walks; spare = s.spare }

-- the same by a seat's fields
abbrev pub plain_seated : Pools → UnitSeat → deferred.DeferredSeated → Kept PlainWalk → PlainSeated
plain_seated p s d walks = record {
  pools = p;
  state = record { rooms = s.me.0.rooms; moves = deferred.moves_of d; walks = walks.items };
  standing = (s.me.0.standing, deferred.deferred_standing d);
  spare = walks.spare;
}

-- a seat that was split off, with this room for walks
abbrev pub new_plain_seat : Pools → ℕ → PlainSeated
new_plain_seat p spare = record { pools = p; state = no_state; standing = (at_split, at_split); spare = spare }

-- a seat of the table of rooms, which was not joined away and has no room in hand
pub record IsUnitSeatOf (p : Pools) (s : UnitSeat) : Type 0 where
  pub seat : IsSeatOf p.table.shared.table_id s.table_id s.me.0.standing
  pub bare : s.me.1 ≡ []
  pub out : (i : ℕ) → (part_of s.me.0 i).in_hand ≡ false

-- the seats of the two tables are of these pools, and were not joined away
pub record IsPlainSeat (p : Pools) (s : UnitSeat) (d : deferred.DeferredSeated) : Type 0 where
  pub units : IsUnitSeatOf p s
  pub deferred : d.deferred ≡ p.deferred

-- it is the first seat at both tables
pub record IsFirstSeat (z : Standing × Standing) : Type 0 where
  pub units : z.0.first ≡ true
  pub deferred : z.1.first ≡ true

-- and all that were split off were joined
pub record IsLastSeat (z : Standing × Standing) : Type 0 where
  pub units : IsWhole z.0
  pub deferred : IsWhole z.1

-- what the first seat did and saw, with what another did and saw that was joined into it
abbrev pub joined_state : PlainState → PlainState → PlainState
joined_state s t = record s { rooms = joined_parts s.rooms t.rooms; moves = both s.moves t.moves }

-- both standings of the first seat once it was split once more
abbrev pub plain_split : Standing × Standing → Standing × Standing
plain_split z = (with_split z.0, with_split z.1)

-- and once another was joined into it
abbrev pub plain_joined : Standing × Standing → Standing × Standing
plain_joined z = (with_join z.0, with_join z.1)

-- what the seat did and saw changed by P, and nothing else of it changed
pub record ActsPlain (P : PlainState → PlainState → Type 0) (old new : PlainSeated) : Type 0 where
  pub did : P old.state new.state
  pub rest : new ≡ record old { state = new.state }

-- what the first seat did and saw, while nobody sits at the tables
abbrev pub first_plain : FirstPlainSeat → PlainState
first_plain f = record { rooms = f.units.me.0.rooms; moves = acts_of (deferred.first_deferred f.deferred).did; walks = f.walks.items }

-- where it stands at both
abbrev pub first_plain_standing : FirstPlainSeat → Standing × Standing
first_plain_standing f = (f.units.me.0.standing, (deferred.first_deferred f.deferred).standing)

-- it is the first seat of these pools
pub record IsFirstPlainOf (p : Pools) (f : FirstPlainSeat) : Type 0 where
  pub units : IsUnitSeatOf p f.units
  pub deferred : deferred.IsFirstDeferredOf p.deferred f.deferred
  pub first : f.units.me.0.standing.first ≡ true

-- the first seat at its tables
abbrev pub first_plain_seated : Pools → FirstPlainSeat → PlainSeated
first_plain_seated p f = record { pools = p; state = first_plain f; standing = first_plain_standing f; spare = f.walks.spare }
