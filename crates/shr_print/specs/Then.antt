-- SPDX-License-Identifier: GPL-2.0-only
-- Runs of the items of a section and then of those of another.
use Rattle.std.specs.Prelude.{ℕ, ◌-◌, ◌++◌, List, min}

-- the text of a run, which has a run of each; the first has this many items
abbrev pub then_text : (ℕ → ℕ → List ℕ) → (ℕ → ℕ → List ℕ) → ℕ → ℕ → ℕ → List ℕ
then_text first second size from to = first (min from size) (min to size) ++ second (from - size) (to - size)

-- what is known of the items of both runs
abbrev pub then_known : (ℕ → ℕ → Type 0) → (ℕ → ℕ → Type 0) → ℕ → ℕ → ℕ → Type 0
then_known first second size from to = first (min from size) (min to size) × second (from - size) (to - size)
