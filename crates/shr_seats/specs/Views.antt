-- SPDX-License-Identifier: GPL-2.0-only
-- What holds of each element of a list.
use Rattle.std.specs.Prelude.{◌≡◌, ℕ, List}
use mathlib.Core.Option.{some}
use lib.ListN.{get_elem?}

-- P holds of each element
abbrev pub Each : {A : Type 0} → (A → Type 0) → List A → Type 0
Each {A} P xs = (j : ℕ) (x : A) → get_elem? xs j ≡ some x → P x
