-- SPDX-License-Identifier: GPL-2.0-only
-- What a contract sees of a tree of groups, and why a path can't be added to it.
use Rattle.std.specs.Prelude.{◌≡◌, ◌≢◌, ◌↔◌, ◌<◌, ◌≤◌, ℕ, Contains, AllPairs, take, slice_index, Bool, true, false, not, ◌&&◌, ◌||◌, nat_le, if◌then◌else◌, List, [], ◌∷◌, ◌++◌, length, map, bytes_eq, unwrap_or, Option, Some, None, Result, Ok, Err}
use Rattle.std.specs.Option.{is_some}
use Rattle.std.specs.List.{range_with_len}
use Rattle.shr_model.specs.Paths.{root_path, is_path, parent_path}
use Rattle.shr_model.specs.Groups.{Hierarchy, IsAtOrAbove, is_later, parent_of, children_of}
use Rattle.shr_model.specs.Trees.{IsTree, IsHierarchy}
use Rattle.shr_words.specs.Classes.{Word, place_of}
use Rattle.shr_tree.specs.declared.tree.Group.{Group}
use Rattle.shr_tree.specs.declared.errors.TreeError.{TreeError}
use Rattle.shr_tree.specs.declared.errors.TreeError.TheVariants as errors

-- the path, the parent and the limit of each group, the root first, and whether it is later
pub record Groups : Type 0 where
  pub paths : List Word
  pub parents : List ℕ
  pub later : List Bool
  -- the most objects that the group may be charged for
  pub limits : List (Option ℕ)

-- the parents of the groups, and which of them are later
abbrev pub hierarchy_in : Groups → Hierarchy
hierarchy_in groups = record { parents = groups.parents; later = groups.later }

-- the root, which has no limit and isn't later
abbrev pub root_alone : Groups
root_alone = record { paths = root_path ∷ []; parents = 0 ∷ []; later = false ∷ []; limits = None ∷ [] }

-- the group of a path is there
abbrev pub is_path_there : List Word → Word → Bool
is_path_there paths path = is_some (place_of path paths)

-- one more group, below that of its parent path
abbrev pub with_group : Groups → Word → Option ℕ → Bool → Groups
with_group groups path limit late = record {
  paths = groups.paths ++ path ∷ [];
  parents = groups.parents ++ unwrap_or (place_of (parent_path path) groups.paths) 0 ∷ [];
  later = groups.later ++ late ∷ [];
  limits = groups.limits ++ limit ∷ [];
}

-- a group may be the parent of one that is later or not: only a later one stands below a later one
abbrev pub may_hold : List Bool → Bool → ℕ → Bool
may_hold later late g = late || not (is_later later g)

-- the same for a group that may be there
abbrev pub is_parent : List Bool → Bool → Option ℕ → Bool
is_parent later late None = false
is_parent later late (Some g) = may_hold later late g

-- the first reason, in this order, why a path can't be added, as a later group or not
unfoldable pub refusal_of : Groups → Bool → Word → Option TreeError
refusal_of groups late path =
    if not (is_path path) then Some errors.BadPath else
    (if not (bytes_eq path root_path) && not (is_parent groups.later late (place_of (parent_path path) groups.paths)) then Some errors.NoParent else
    (if is_path_there groups.paths path then Some errors.Exists else
    (if nat_le 256 (length groups.paths) then Some errors.TooMany else None)))

-- A path with a reason against it is refused for that reason, and any other only for want of
-- memory.
abbrev pub Refuses : {A : Type 0} → Result A TreeError → Option TreeError → Type 0
Refuses (Ok x) reason = reason ≡ None
Refuses (Err errors.Memory) reason = reason ≡ None
Refuses (Err e) reason = reason ≡ Some e

-- The order has the groups of a subtree and no other, each once, and each but the first behind its
-- parent.
pub record IsSubtree (parents : List ℕ) (group : ℕ) (order : List ℕ) : Type 0 where
  pub groups : (b : ℕ) → b < length parents → Contains order b ↔ IsAtOrAbove parents group b
  pub once : AllPairs (λ a b. a ≢ b) order
  pub behind : (i : ℕ) → 0 < i → i < length order → Contains (take i order) (parent_of parents (slice_index order i))

-- what is seen of the groups as they are kept
abbrev pub groups_seen : List Word → List Group → Groups
groups_seen paths groups = record { paths = paths; parents = map (λ g. g.parent) groups; later = map (λ g. g.later) groups; limits = map (λ g. g.limit) groups }

-- the children of each group
abbrev pub children_lists : List ℕ → List (List ℕ)
children_lists parents = map (children_of parents) (range_with_len 0 (length parents))

-- the parts of a tree belong together
pub record IsTreeWhole (paths : List Word) (groups : List Group) (lists : List (List ℕ)) : Type 0 where
  pub tree : IsTree (map (λ g. g.parent) groups)
  pub hierarchy : IsHierarchy (record { parents = map (λ g. g.parent) groups; later = map (λ g. g.later) groups })
  pub named : length paths ≡ length groups
  pub few : length groups ≤ 256
  pub children : lists ≡ children_lists (map (λ g. g.parent) groups)
