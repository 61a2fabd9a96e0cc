-- SPDX-License-Identifier: GPL-2.0-only
-- What the parts of well formed ask, at known values.
use Rattle.shr_audit_formed.proofs.Common.{◌≡◌, ℕ, ◌<◌, List, [], ◌∷◌, refl, arith, range_with_len, MapSeen, bit_places, EachItem, Adjacent, IsWorkerCommand, IsUnitLoaded, IsNotStripped, at_unit, group_places}
use Rattle.shr_base.specs.declared.places.Serial.{Serial}

abbrev by : Serial
by = record { worker = 2; command = 4 }

of_worker : IsWorkerCommand 2 5 by
of_worker = (refl, omega arith)

no_answer : IsWorkerCommand 2 4 by → ⊥
no_answer h = let few : 4 < 4 = h.1 in absurd (omega arith)

above_two : EachItem (λ (n : ℕ). 2 < n) (3 ∷ 1 ∷ []) → ⊥
above_two h = let n = h 1 1 refl in absurd (omega arith)

falls : Adjacent (λ (n m : ℕ). n < m) (1 ∷ 3 ∷ 3 ∷ []) → ⊥
falls h = let n = h 1 3 3 refl refl in absurd (omega arith)

abbrev loaded_two : List MapSeen
loaded_two = record { unit = 0; bits = 1 } ∷ record { unit = 3; bits = 1 } ∷ []

loaded : IsUnitLoaded loaded_two 3
loaded = (1, (record { unit = 3; bits = 1 }, (refl, refl)))

-- two groups have one word of bits on each of two nodes, and the root has none
two_nodes : bit_places 2 2 (range_with_len 0 1) ≡ at_unit 0 1 0 ∷ at_unit 1 1 0 ∷ []
two_nodes = refl

three_groups : group_places 1 3 2 ≡ at_unit 1 1 0 ∷ at_unit 1 1 1 ∷ at_unit 1 2 0 ∷ at_unit 1 2 1 ∷ []
three_groups = refl

first_of_them : IsNotStripped (at_unit 0 1 0 ∷ []) (at_unit 0 1 0 ∷ at_unit 0 2 0 ∷ []) → ⊥
first_of_them h = h (at_unit 0 2 0 ∷ []) refl
