-- SPDX-License-Identifier: GPL-2.0-only
-- Sums by key at known values.
use Rattle.shr_audit_case.proofs.SumsCommon.{arith, ap, ◌≡◌, ℕ, ◌^◌, ◌-◌, true, false, List, [], ◌∷◌, refl, Place, Carry, Move, sum_up_at, sum_down_at, IsSettled, deferred_key, IsNarrow, GainsAtEach, carried_to, carried_from}
use Rattle.shr_audit_case.specs.Moves.{settles}

abbrev move : ℕ → ℕ → ℕ → Move
move key up down = record { key = key; up = up; down = down }

abbrev even : List Move
even = move 3 5 0 ∷ move 7 0 1 ∷ move 3 0 5 ∷ move 7 1 0 ∷ []

up_at_three : sum_up_at 3 even ≡ 5
up_at_three = refl

down_at_seven : sum_down_at 7 even ≡ 1
down_at_seven = refl

-- one unit of key 7 isn't given back
odd_is_not_settled : IsSettled (move 3 5 5 ∷ move 7 1 0 ∷ []) → ⊥
odd_is_not_settled s = absurd (omega (arith, s 7))

-- amounts go round at 2^64
goes_round : settles 0 0 0 (move 0 (2 ^ 64 - 1) 3 ∷ move 0 4 0 ∷ []) ≡ true
unfolding settles
goes_round = refl

short_of_it : settles 0 0 0 (move 0 (2 ^ 64 - 1) 3 ∷ move 0 3 0 ∷ []) ≡ false
unfolding settles
short_of_it = refl

abbrev place : ℕ → ℕ → ℕ → Place
place id node group = record { id = id; node = node; group = group }

-- places that differ have keys that differ
next_id : deferred_key (place 1 0 0) ≡ 2 ^ 24
next_id = refl

next_node : deferred_key (place 0 1 0) ≡ 2 ^ 16
next_node = refl

inside : IsNarrow (place 255 3 255)
inside = record { node = omega arith; group = omega arith }

outside : IsNarrow (place 0 256 0) → ⊥
outside n = absurd (omega (arith, n.node))

-- a carry of 4 from group 2 to its parent, group 1
abbrev carry : Carry
carry = record { by = record { worker = 0; command = 0 }; place = place 0 0 2; amount = 4 }

carry_gives : carried_to (0 ∷ 0 ∷ 1 ∷ []) (place 0 0 1) carry ≡ 4
carry_gives = refl

carry_gives_no_other : carried_to (0 ∷ 0 ∷ 1 ∷ []) (place 0 0 0) carry ≡ 0
carry_gives_no_other = refl

carry_takes : carried_from (place 0 0 2) carry ≡ 4
carry_takes = refl
