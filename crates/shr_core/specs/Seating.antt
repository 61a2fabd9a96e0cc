-- SPDX-License-Identifier: GPL-2.0-only
-- What is true of each seat.
use Rattle.std.specs.Prelude.{◌≡◌, [], None, false, true}
use Rattle.shr_core.specs.declared.table.Core.{Core}
use Rattle.shr_core.specs.declared.seat.FirstSeat.{FirstSeat}
use Rattle.shr_core.specs.declared.seat.Seat.TheInside.{Inside}
use Rattle.shr_core.specs.Seats.{first_view, numbers_of, room_numbers, room_rows, slot_numbers, IsHolding, IsMeeting}

-- A seat is of this core, was not joined away, and what it keeps at run time agrees with its view.
-- Between calls it probes no id and is to look up none.
pub record IsOf (core : Core) (seat : Inside) : Type 0 where
  pub table : seat.token.table_id ≡ core.table.shared.table_id
  pub present : seat.token.me.0.standing.gone ≡ false
  pub holding : IsHolding core.setting.shape.ids seat.held seat.token.me.0.claims
  pub may : seat.token.me.0.claims.may ≡ None
  pub probe : seat.token.me.0.claims.probe ≡ None
  pub rooms : numbers_of seat.rooms ≡ room_numbers seat.token.me.0
  pub slots : slot_numbers seat.token.me.1 ≡ room_rows core.setting.shape seat.token.me.0
  pub met : IsMeeting core.setting.shape seat.token.me.0.turns.known seat.met

-- The first seat of this core while it isn't there: it was not joined away, and has no room in hand.
pub record IsFirstOf (core : Core) (seat : FirstSeat) : Type 0 where
  pub table : seat.token.table_id ≡ core.table.shared.table_id
  pub first : (first_view seat).standing.first ≡ true
  pub present : (first_view seat).standing.gone ≡ false
  pub holding : IsHolding core.setting.shape.ids seat.held (first_view seat).claims
  pub may : (first_view seat).claims.may ≡ None
  pub probe : (first_view seat).claims.probe ≡ None
  pub rest : (first_view seat).holding.hands ≡ []
  pub slots : seat.token.me.1 ≡ []
