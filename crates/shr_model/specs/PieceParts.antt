-- SPDX-License-Identifier: GPL-2.0-only
-- The pieces of a line, one after the other.
use Rattle.std.specs.Prelude.{ℕ, Bool, List, [], ◌∷◌, Option, Some, None}
use Rattle.std.specs.List.{list_all}
use Rattle.shr_model.specs.Pieces.{pieces, differs}

-- a part has no separator
abbrev pub is_part_of : ℕ → List ℕ → Bool
is_part_of sep w = list_all (differs sep) w

-- The parts that are still to come: none, or those of the bytes behind the last separator.
unfoldable pub left : ℕ → Option (List ℕ) → List (List ℕ)
left sep None = []
left sep (Some bytes) = pieces sep bytes

-- the next part, and those behind it
abbrev pub next_part : List (List ℕ) → Option (List ℕ × List (List ℕ))
next_part [] = None
next_part (w ∷ ws) = Some (w, ws)
