-- SPDX-License-Identifier: GPL-2.0-only
-- The first seats, at their tables and by themselves.
use Rattle.std.specs.Prelude.{◌≡◌}
use Rattle.shr_core.specs.declared.table.Core.{Core}
use Rattle.shr_charge.specs.declared.table.Charge.{Charge}
use Rattle.shr_deferred.specs.declared.table.Deferred.{Deferred}
use Rattle.shr_plain.specs.declared.table.FirstPlainSeat.{FirstPlainSeat}
use Rattle.shr_plain.specs.declared.table.Pools.{Pools}
use Rattle.shr_plain.specs.Seat.{IsFirstPlainOf, IsFirstSeat, PlainSeated, first_plain, first_plain_standing, plain_state_of, plain_standing}
use Rattle.shr_walk.specs.Sharing.{AreFirstOf, MayLeave}
use Rattle.shr_tables.specs.declared.tables.CrewSeats.{CrewSeats}
use Rattle.shr_tables.specs.declared.tables.FirstCrew.{FirstCrew}
use Rattle.shr_tables.specs.declared.tables.Tables.{Tables}

-- the four tables of a run
pub record Held : Type 0 where
  pub core : Core
  pub charge : Charge
  pub deferred : Deferred
  pub pools : Pools

-- those that seats are of
abbrev pub held_by : CrewSeats → Held
held_by s = record { core = s.seats.cache.core.core; charge = s.seats.cache.charge.charge; deferred = s.seats.deferred.deferred; pools = s.plain.pools }

-- those of a run
abbrev pub held_in : Tables → Held
held_in t = record { core = t.shared.core; charge = t.shared.charge; deferred = t.shared.deferred; pools = t.pools }

-- these are the first seats of these tables
pub record AreFirstIn (h : Held) (f : FirstCrew) : Type 0 where
  pub caches : AreFirstOf h.core h.charge h.deferred f.seats
  pub plain : IsFirstPlainOf h.pools f.plain

-- the first seats at their tables, with no room in hand
pub record AreFirst (s : CrewSeats) : Type 0 where
  pub caches : MayLeave s.seats
  pub plain : IsFirstSeat (plain_standing s.plain)

-- the first seat of the pools, as it left its tables
pub record HasLeft (s : PlainSeated) (f : FirstPlainSeat) : Type 0 where
  pub first : IsFirstPlainOf s.pools f
  pub state : first_plain f ≡ plain_state_of s
  pub standing : first_plain_standing f ≡ plain_standing s
