-- SPDX-License-Identifier: GPL-2.0-only
-- Numbers that never fall, one after another.
use Rattle.std.specs.Prelude.{ℕ, ◌≤◌, ◌↔◌, List, [], ◌∷◌, ◌++◌, Option, Some, None, ⊤}

-- each of these is at least the one before it, and the first at least this number
abbrev pub NeverFallsFrom : ℕ → List ℕ → Type 0
NeverFallsFrom low [] = ⊤
NeverFallsFrom low (n ∷ ns) = (low ≤ n) × NeverFallsFrom n ns

-- these fall, from this number on; or they don't, and then it is this one that others behind them don't fall from
abbrev pub After : ℕ → List ℕ → Option ℕ → Type 0
After low ns None = (rest : List ℕ) → NeverFallsFrom low (ns ++ rest) → ⊥
After low ns (Some last) = (rest : List ℕ) → NeverFallsFrom low (ns ++ rest) ↔ NeverFallsFrom last rest
