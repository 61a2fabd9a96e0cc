-- SPDX-License-Identifier: GPL-2.0-only
-- Keys that go up and keys that go down.
use Rattle.std.specs.Prelude.{◌≡◌, ℕ, Bool, ◌==◌, cond, List, count_by}
use Rattle.shr_audit_case.specs.declared.moves.Move.{Move}

-- each key goes up as often as it goes down
abbrev pub AreBalanced : List ℕ → List ℕ → Type 0
AreBalanced ups downs = (key : ℕ) → count_by (λ k. k == key) ups ≡ count_by (λ k. k == key) downs

-- a key that goes up, or down, by one
abbrev pub unit : Bool → ℕ → Move
unit up key = record { key = key; up = cond up 1 0; down = cond up 0 1 }
