-- SPDX-License-Identifier: GPL-2.0-only
-- What a reader finds.
use Rattle.std.specs.Prelude.{◌≡◌, Option, Some, None}

-- what was found is this value, and where nothing was, the value's numbers don't have the ranges of their types
abbrev pub IsReadAs : {X : Type 0} → Option X → X → Type 0 → Type 0
IsReadAs (Some x) y Fits = x ≡ y
IsReadAs None y Fits = Fits → ⊥
