-- SPDX-License-Identifier: GPL-2.0-only
-- A worker's seats while an id is held, and the first seats.
use Rattle.std.specs.Prelude.{◌≡◌, ℕ, true, false, [], None, Some}
use Rattle.shr_base.specs.declared.places.Place.{Place}
use Rattle.shr_seats.specs.Standing.{Standing}
use Rattle.shr_core.specs.Parts.{no_rooms}
use Rattle.shr_core.specs.Seats.{IsPlaceOfShape, view_of, shape_of}
use Rattle.shr_charge.specs.Seat.{standing_of as charges_standing}
use Rattle.shr_deferred.specs.Seat.{deferred_standing}
use Rattle.shr_walk.specs.Acting.{IsFit}
use Rattle.shr_walk.specs.Sharing.{IsShared, AreOpened}
use Rattle.shr_walk.specs.declared.seats.FirstSeats.{FirstSeats}
use Rattle.shr_walk.specs.declared.seats.Seats.{Seats}
use Rattle.shr_walk.specs.declared.seats.Shared.{Shared}

-- what the workers share belongs together, and a worker's seats are of it and at rest, but that the id of a place is held
pub record IsHolder (x : Shared) (place : Place) (s : Seats) : Type 0 where
  pub shared : IsShared x
  pub inside : IsPlaceOfShape (shape_of x.core) place
  pub core : s.cache.core.core ≡ x.core
  pub rooms : (view_of s.cache.core).holding ≡ no_rooms
  pub held : (view_of s.cache.core).claims.held ≡ Some place.id
  pub owner : (view_of s.cache.core).claims.owner ≡ None
  pub owed : (view_of s.cache.core).marks.owed ≡ []
  pub charge : s.cache.charge.charge ≡ x.charge
  pub deferred : s.deferred.deferred ≡ x.deferred

-- new tables belong together, and these are their first seats
pub record AreNew (x : Shared) (f : FirstSeats) : Type 0 where
  pub shared : IsShared x
  pub opened : AreOpened x f

-- the first seat of a table, which was split so often and joined with none
abbrev pub split_so_often : ℕ → Standing
split_so_often n = record { first = true; gone = false; splits = n; joins = 0 }

-- the first seats are a worker's, and did nothing but be split
pub record AreFirstSeats (x : Shared) (s : Seats) (splits : ℕ) : Type 0 where
  pub fit : IsFit x s
  pub core : (view_of s.cache.core).standing ≡ split_so_often splits
  pub charge : charges_standing s.cache.charge ≡ split_so_often splits
  pub deferred : deferred_standing s.deferred ≡ split_so_often splits

-- what a thread starts with that walks while other seats hold an id
pub record Starting : Type 0 where
  pub shared : Shared
  pub walker : Seats
  pub holder : Seats

-- it may walk, and the id of the place is held
pub record CanStart (place : Place) (s : Starting) : Type 0 where
  pub fit : IsFit s.shared s.walker
  pub holder : IsHolder s.shared place s.holder
