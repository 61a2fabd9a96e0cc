-- SPDX-License-Identifier: GPL-2.0-only
-- Runs of neighbours in a list.
use Rattle.std.specs.Prelude.{ℕ, ◌-◌, List, take, drop}

-- the items from one number up to another
abbrev pub run_of : {X : Type 0} → ℕ → ℕ → List X → List X
run_of from to xs = take (to - from) (drop from xs)
