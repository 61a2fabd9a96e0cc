-- SPDX-License-Identifier: GPL-2.0-only
-- What is left in the deferred words at the end.
use Rattle.std.specs.Prelude.{ℕ, Bool, not, ◌==◌, List, map, filter}
use Rattle.std.specs.List.{range_with_len}
use Rattle.shr_base.specs.declared.ends.PlaceAmount.{PlaceAmount}
use Rattle.shr_model.specs.Deferred.{amount_of, deferred_word}
use Rattle.shr_seats.specs.declared.rows.Sizes.{Sizes}
use Rattle.shr_seats.specs.Rows.{place_of_row, row_count}
use Rattle.shr_deferred.specs.Moves.{Moves}
use Rattle.shr_deferred.specs.Rule.{took_at, gave_at}

-- the amount isn't 0
abbrev pub is_some_amount : PlaceAmount → Bool
is_some_amount x = not (x.amount == 0)

-- the amounts f that aren't 0, of the first n words, with their places
unfoldable pub amounts : Sizes → (ℕ → ℕ) → ℕ → List PlaceAmount
amounts z f n = filter is_some_amount (map (λ i. amount_of (place_of_row z i) (f i)) (range_with_len 0 n))

-- what these moves leave at each place, by id, node and group, where it isn't 0
abbrev pub left_over : Sizes → Moves → List PlaceAmount
left_over z m = amounts z (λ i. deferred_word (gave_at (place_of_row z i) m) (took_at (place_of_row z i) m)) (row_count z)
