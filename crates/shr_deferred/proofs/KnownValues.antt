-- SPDX-License-Identifier: GPL-2.0-only
-- Words, places and moves of the table at known values.
use Rattle.shr_deferred.proofs.Common.{arith, ◌≡◌, ℕ, ◌^◌, List, [], ◌∷◌, refl, Place, Sizes, IsPlaceOf, row_of, place_of_row, row_count, left_at, amount_of, Deed, part, Move, Moves, took, gave, both, take_of, give_of, AreTaken, amounts_after, ◌-◌}

-- a table of 3 ids, 2 nodes and 4 groups
abbrev sizes : Sizes
sizes = record { ids = 3; nodes = 2; groups = 4 }

abbrev place : Place
place = record { id = 2; node = 1; group = 3 }

last_word : row_of sizes place ≡ 23
last_word = refl

place_of_last : place_of_row sizes 23 ≡ place
place_of_last = refl

words_there_are : row_count sizes ≡ 24
words_there_are = refl

last_inside : IsPlaceOf sizes place
last_inside = record { id = omega arith; node = omega arith; group = omega arith }

outside : IsPlaceOf sizes (record place { group = 4 }) → ⊥
outside inside = absurd (omega (arith, inside.group))

-- 3 given, 7 given and the 10 taken, then 5 given at another place and 4 at this one
abbrev moves : Moves
moves = both (give_of place 3) (both (give_of place 7) (both (take_of place 10) (both (give_of (record place { id = 0 }) 5) (give_of place 4))))

left_here : left_at place moves ≡ 4
left_here = refl

left_elsewhere : left_at (record place { id = 0 }) moves ≡ 5
left_elsewhere = refl

-- amounts add up modulo 2^64
wrapped : left_at place (both (give_of place (2 ^ 64 - 1)) (give_of place 3)) ≡ 2
wrapped = refl

abbrev deed : ℕ → Move → Deed Move
deed seat act = record { seat = seat; act = act }

-- seat 0 gave 3, seat 1 gave 7, seat 0 took what was there, and seat 1 gave 4
abbrev line : ℕ → List (Deed Move)
line found = deed 0 (gave (amount_of place 3)) ∷ deed 1 (gave (amount_of place 7)) ∷ deed 0 (took (amount_of place found)) ∷ deed 1 (gave (amount_of place 4)) ∷ []

takes_all : AreTaken (line 10)
takes_all = (tt, (tt, (refl, (tt, tt))))

leaves_the_rest : amounts_after (line 10) place ≡ 4
leaves_the_rest = refl

leaves_none_elsewhere : amounts_after (line 10) (record place { id = 0 }) ≡ 0
leaves_none_elsewhere = refl

-- a take of what nobody gave, though the sums agree modulo 2^64 once it is given back
invented : AreTaken (line 11) → ⊥
invented taken = absurd (omega (arith, taken.1.1.0))

-- a take that left some
left_some : AreTaken (line 7) → ⊥
left_some taken = absurd (omega (arith, taken.1.1.0))

-- the moves of seat 1, in order
of_one_seat : part 1 (line 10) ≡ deed 1 (gave (amount_of place 7)) ∷ deed 1 (gave (amount_of place 4)) ∷ []
of_one_seat = refl
