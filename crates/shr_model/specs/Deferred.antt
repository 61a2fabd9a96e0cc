-- SPDX-License-Identifier: GPL-2.0-only
-- What is deferred at a place.
use Rattle.std.specs.Prelude.{ℕ, ◌+◌, ◌-◌, ◌%◌, ◌^◌}
use Rattle.shr_base.specs.declared.places.Place.{Place}
use Rattle.shr_base.specs.declared.ends.PlaceAmount.{PlaceAmount}

-- an amount at a place
abbrev pub amount_of : Place → ℕ → PlaceAmount
amount_of p n = record { place = p; amount = n }

-- the deferred word to which these two sums were given and from which they were taken: gives less
-- takes, modulo 2^64
abbrev pub deferred_word : ℕ → ℕ → ℕ
deferred_word given taken = (given + (2 ^ 64 - taken % 2 ^ 64)) % 2 ^ 64
