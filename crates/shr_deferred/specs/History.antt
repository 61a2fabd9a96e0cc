-- SPDX-License-Identifier: GPL-2.0-only
-- What a finished table says of the order of all moves.
use Rattle.std.specs.Prelude.{◌≡◌, ℕ, List}
use Rattle.shr_base.specs.declared.ends.PlaceAmount.{PlaceAmount}
use Rattle.shr_seats.specs.declared.rows.Sizes.{Sizes}
use Rattle.shr_seats.specs.Rows.{place_of_row, row_count}
use Rattle.shr_seats.specs.Lines.{Deed, by_seat, part}
use Rattle.shr_deferred.specs.Moves.{Move, Moves}
use Rattle.shr_deferred.specs.Rule.{AreTaken, amounts_after, strand_at}
use Rattle.shr_deferred.specs.Left.{amounts}

-- There is one order of all moves of these strands, and of no others, in which each strand's stand as they were made, each
-- take took just what was given at its place since the take before, and what is left is what they leave.
pub record HasHistory (z : Sizes) (strands : List Moves) (rest : List PlaceAmount) : Type 0 where
  pub line : List (Deed Move)
  pub parts : (k : ℕ) → part k line ≡ by_seat k (strand_at strands k)
  pub taken : AreTaken line
  pub left : rest ≡ amounts z (λ i. amounts_after line (place_of_row z i)) (row_count z)
