-- SPDX-License-Identifier: GPL-2.0-only
-- Deferred words by their places, and their sums.
use Rattle.std.specs.Prelude.{ℕ, cond, List, sum_by}
use Rattle.shr_base.specs.declared.places.Place.{Place}
use Rattle.shr_base.specs.declared.ends.PlaceAmount.{PlaceAmount}
use Rattle.shr_model.specs.Places.{is_place}

-- the amount, where it is at the place p
abbrev pub amount_at : Place → PlaceAmount → ℕ
amount_at p x = cond (is_place p x.place) x.amount 0

-- what amounts come to at the place p
abbrev pub sum_at : Place → List PlaceAmount → ℕ
sum_at p xs = sum_by (amount_at p) xs
