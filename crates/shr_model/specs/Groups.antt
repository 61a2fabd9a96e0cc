-- SPDX-License-Identifier: GPL-2.0-only
-- The tree of groups, by the list of their parents.
use Rattle.std.specs.Prelude.{ℕ, zero, suc, Bool, false, ◌&&◌, ◌==◌, nat_lt, if◌then◌else◌, List, [], ◌∷◌, length, slice_index, slice_index_or, filter, flat_map, Contains}
use Rattle.std.specs.List.{range_with_len}

-- the parent of a group; the root is its own
abbrev pub parent_of : List ℕ → ℕ → ℕ
parent_of parents group = slice_index parents group

-- a group that isn't there at the start
abbrev pub is_later : List Bool → ℕ → Bool
is_later later group = slice_index_or later group false

-- the groups of a run: the parent of each, and whether it is later, which is that it isn't there at
-- the start
pub record Hierarchy : Type 0 where
  pub parents : List ℕ
  pub later : List Bool

-- a group, its parent, and so on to the root, in at most so many steps
unfoldable pub path_within : ℕ → List ℕ → ℕ → List ℕ
path_within zero parents group = group ∷ []
path_within (suc steps) parents group =
    if group == 0 then 0 ∷ [] else group ∷ path_within steps parents (parent_of parents group)

-- a group, its parent, and so on to the root
abbrev pub path_of : List ℕ → ℕ → List ℕ
path_of parents group = path_within group parents group

-- a group is on the path of another
abbrev pub IsAtOrAbove : List ℕ → ℕ → ℕ → Type 0
IsAtOrAbove parents group below = Contains (path_of parents below) group

-- one group is a child of another
abbrev pub is_child : List ℕ → ℕ → ℕ → Bool
is_child parents group child =
    nat_lt 0 child && nat_lt child (length parents) && (parent_of parents child == group)

-- the children of a group, in rising order
abbrev pub children_of : List ℕ → ℕ → List ℕ
children_of parents group = filter (is_child parents group) (range_with_len 0 (length parents))

-- a group and what is below it, at most so many levels deep
unfoldable pub preorder_within : ℕ → List ℕ → ℕ → List ℕ
preorder_within zero parents group = []
preorder_within (suc levels) parents group =
    group ∷ flat_map (preorder_within levels parents) (children_of parents group)

-- a group and then the subtree of each of its children, these in rising order
abbrev pub preorder_of : List ℕ → ℕ → List ℕ
preorder_of parents group = preorder_within (length parents) parents group
