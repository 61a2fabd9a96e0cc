-- SPDX-License-Identifier: GPL-2.0-only
-- What a fake keeps of a seat.
use Rattle.shr_base.specs.declared.places.Place.{Place}
use Rattle.shr_core.specs.Gained.{OwesNoMore}
use Rattle.shr_core.specs.Seats.{view_of}
use Rattle.shr_core.specs.declared.table.Core.{Core}
use Rattle.shr_charge.specs.declared.table.Charge.{Charge}
use Rattle.shr_walk.specs.Listing.{IsReadyOf}
use Rattle.shr_walk.specs.declared.seats.CacheSeat.{CacheSeat}

-- a seat that was ready at its tables stays so, and owes no further place
pub record Stays (place : Place) (s t : CacheSeat) : Type 0 where
  pub ready : (core : Core) (charge : Charge) → IsReadyOf core charge place s → IsReadyOf core charge place t
  pub owed : OwesNoMore (view_of s.core) (view_of t.core)

-- what changes nothing keeps them
pub stays_refl : (place : Place) (s : CacheSeat) → Stays place s s
stays_refl place s = record { ready = λ core charge r. r; owed = λ k h. h }

-- and so do two calls, one after the other
pub stays_trans : (place : Place) (s t u : CacheSeat) → Stays place s t → Stays place t u → Stays place s u
stays_trans place s t u a b = record { ready = λ core charge r. b.ready core charge (a.ready core charge r); owed = λ k h. a.owed k (b.owed k h) }
