-- SPDX-License-Identifier: GPL-2.0-only
-- Paths of groups: which bytes are one, and the path of its parent.
use Rattle.std.specs.Prelude.{ℕ, ◌+◌, ◌-◌, Bool, false, ◌&&◌, ◌||◌, ◌==◌, if◌then◌else◌, List, [], ◌∷◌, length, take, reverse, bytes_eq, codes}
use Rattle.std.specs.List.{list_all, prefix_len}
use Rattle.shr_model.specs.Words.{is_part}
use Rattle.shr_model.specs.Pieces.{pieces, differs}

-- the path of group 0
abbrev pub root_path : List ℕ
root_path = codes "/"

-- each of the parts may stand in a path
abbrev pub all_parts : List (List ℕ) → Bool
all_parts parts = list_all is_part parts

-- the root's path, or one or more parts, each behind a /
unfoldable pub is_path : List ℕ → Bool
is_path [] = false
is_path (b ∷ bs) = (b == 47) && (bytes_eq bs [] || all_parts (pieces 47 bs))

-- how many bytes stand before the last /
abbrev pub trunk_len : List ℕ → ℕ
trunk_len path = length path - (prefix_len (differs 47) (reverse path) + 1)

-- The parent path of a path of one part is the root's, and that of a longer path is the path
-- without its last part.
unfoldable pub parent_path : List ℕ → List ℕ
parent_path path = if trunk_len path == 0 then root_path else take (trunk_len path) path
