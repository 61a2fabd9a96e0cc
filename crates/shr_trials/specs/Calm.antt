-- SPDX-License-Identifier: GPL-2.0-only
-- A seat between the calls of a trial.
use Rattle.std.specs.Prelude.{◌≡◌, [], None}
use Rattle.shr_core.specs.declared.view.View.{View}
use Rattle.shr_core.specs.Parts.{no_rooms}
use Rattle.shr_core.specs.Seats.{Seated, view_of}

-- the seat has no room in hand, owes no place and owns no id
pub record IsCalm (v : View) : Type 0 where
  pub rooms : v.holding ≡ no_rooms
  pub owed : v.marks.owed ≡ []
  pub owner : v.claims.owner ≡ None

-- a call left the seat calm, at its core, and where it stands among the seats
pub record StaysCalm (s t : Seated) : Type 0 where
  pub core : t.core ≡ s.core
  pub calm : IsCalm (view_of t)
  pub standing : (view_of t).standing ≡ (view_of s).standing
