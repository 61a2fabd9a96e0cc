-- SPDX-License-Identifier: GPL-2.0-only
-- A tree of groups as its tables have it.
use Rattle.std.specs.Prelude.{◌≡◌, ℕ, ◌<◌, false, List, length}
use Rattle.shr_model.specs.Groups.{parent_of, is_later, Hierarchy, path_of}

-- group 0 is the root, and each other group has a parent with a lower number
pub record IsTree (parents : List ℕ) : Type 0 where
  pub has_root : 0 < length parents
  pub root : parent_of parents 0 ≡ 0
  pub lower : (group : ℕ) → 0 < group → group < length parents → parent_of parents group < group

-- it is a tree; of each group it is said whether it is later; the root isn't, and the parent of one
-- that isn't isn't
pub record IsHierarchy (h : Hierarchy) : Type 0 where
  pub tree : IsTree h.parents
  pub each : length h.later ≡ length h.parents
  pub root : is_later h.later 0 ≡ false
  pub above : (group : ℕ) → group < length h.parents → is_later h.later group ≡ false → is_later h.later (parent_of h.parents group) ≡ false

-- how many groups there are from a group to the root
abbrev pub depth_of : List ℕ → ℕ → ℕ
depth_of parents group = length (path_of parents group)
