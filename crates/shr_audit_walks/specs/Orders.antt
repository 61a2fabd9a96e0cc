-- SPDX-License-Identifier: GPL-2.0-only
-- The preorders of groups, that of the last group first. No public clause cites this.
use Rattle.std.specs.declared.alloc.Global.{Global}
use Rattle.std.specs.Prelude.{◌≡◌, ℕ, ◌+◌, ◌-◌, ◌<◌, ◌≤◌, List, length, slice_get, flat_map, Some, Vec}
use Rattle.shr_model.specs.Trees.{IsTree}
use Rattle.shr_model.specs.Groups.{children_of, preorder_of}
use Rattle.shr_audit_walks.specs.declared.orders.Subtrees.{Subtrees}

-- of each group from one on, that of the last group first, this is the preorder
pub record AreOrdersFrom (parents : List ℕ) (group : ℕ) (orders : List (Vec ℕ Global)) : Type 0 where
  pub many : length orders + group ≡ length parents
  pub each : (g : ℕ) (order : Vec ℕ Global) → g < length parents → slice_get orders (length parents - 1 - g) ≡ Some order → order.items ≡ preorder_of parents g

-- the preorders of the children of a group, in rising order
abbrev pub subtrees_of : List ℕ → ℕ → List ℕ
subtrees_of parents group = flat_map (preorder_of parents) (children_of parents group)

-- the groups are a tree, and the preorder of each is told
pub record AreSubtrees (t : Subtrees) : Type 0 where
  pub tree : IsTree t.parents.items
  pub few : length t.parents.items ≤ 65536
  pub orders : AreOrdersFrom t.parents.items 0 t.orders.items
