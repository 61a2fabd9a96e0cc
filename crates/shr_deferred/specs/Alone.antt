-- SPDX-License-Identifier: GPL-2.0-only
-- A seat that has the table to itself.
use Rattle.std.specs.Prelude.{◌≡◌, ℕ, true}
use Rattle.shr_base.specs.declared.places.Place.{Place}
use Rattle.shr_model.specs.Deferred.{deferred_word}
use Rattle.shr_seats.specs.Standing.{Standing, IsWhole}
use Rattle.shr_deferred.specs.Moves.{Moves}
use Rattle.shr_deferred.specs.Rule.{took_at, gave_at}

-- the first seat, with all others joined
abbrev pub IsAlone : Standing → Type 0
IsAlone z = (z.first ≡ true) × IsWhole z

-- what these moves leave at a place
abbrev pub left_at : Place → Moves → ℕ
left_at p m = deferred_word (gave_at p m) (took_at p m)
