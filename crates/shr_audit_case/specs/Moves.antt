-- SPDX-License-Identifier: GPL-2.0-only
-- Amounts that go up and down at keys, and when those of each key come to the same.
use Rattle.std.specs.Prelude.{◌≡◌, ℕ, ◌+◌, ◌%◌, ◌^◌, Bool, ◌&&◌, ◌==◌, cond, List, [], ◌∷◌, sum_by}
use Rattle.shr_audit_case.specs.declared.moves.Move.{Move}

-- how much goes up at a key
abbrev pub sum_up_at : ℕ → List Move → ℕ
sum_up_at key ms = sum_by (λ (m : Move). cond (m.key == key) m.up 0) ms

-- how much goes down at a key
abbrev pub sum_down_at : ℕ → List Move → ℕ
sum_down_at key ms = sum_by (λ (m : Move). cond (m.key == key) m.down 0) ms

-- at each key the two come to the same, modulo 2^64
abbrev pub IsSettled : List Move → Type 0
IsSettled ms = (key : ℕ) → sum_up_at key ms % 2 ^ 64 ≡ sum_down_at key ms % 2 ^ 64

-- the same, run by run: so much went up and down in the run of this key
unfoldable pub settles : ℕ → ℕ → ℕ → List Move → Bool
settles key up down [] = up % 2 ^ 64 == down % 2 ^ 64
settles key up down (m ∷ ms) =
    cond (m.key == key) (settles key ((up + m.up) % 2 ^ 64) ((down + m.down) % 2 ^ 64) ms) ((up % 2 ^ 64 == down % 2 ^ 64) && settles m.key m.up m.down ms)
