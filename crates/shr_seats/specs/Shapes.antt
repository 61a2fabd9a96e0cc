-- SPDX-License-Identifier: GPL-2.0-only
-- The shape of a run's tables, and which shapes there may be.
use Rattle.std.specs.Prelude.{◌≡◌, ◌<◌, ◌≤◌, ◌^◌, ℕ, length}
use Rattle.shr_model.specs.Groups.{Hierarchy}
use Rattle.shr_model.specs.Trees.{IsTree, IsHierarchy}
use Rattle.shr_seats.specs.declared.rows.Sizes.{Sizes}
use Rattle.shr_seats.specs.declared.shape.Shape.{Shape}

-- how many groups a shape has
abbrev pub groups_in : Shape → ℕ
groups_in shape = length shape.parents.items

-- the parents of a shape's groups, and which of them are later
abbrev pub hierarchy_of : Shape → Hierarchy
hierarchy_of shape = record { parents = shape.parents.items; later = shape.later.items }

-- the ids, nodes and groups of a shape
abbrev pub sizes_of : Shape → Sizes
sizes_of shape = record { ids = shape.ids; nodes = shape.nodes; groups = length shape.parents.items }

-- the shapes that charges may be made in: the number of each group but the root is above its
-- parent's, and each group has a limit or none
pub record HasLimits (shape : Shape) : Type 0 where
  pub tree : IsTree shape.parents.items
  pub hierarchy : IsHierarchy (hierarchy_of shape)
  pub groups : length shape.parents.items ≤ 256
  pub limits : length shape.limits.items ≡ length shape.parents.items

-- the shapes that a core may be made in; it reads no limit
pub record IsShape (shape : Shape) : Type 0 where
  pub tree : IsTree shape.parents.items
  pub groups : length shape.parents.items ≤ 256
  pub some_nodes : 0 < shape.nodes
  pub nodes : shape.nodes ≤ 4
  pub some_ids : 0 < shape.ids
  pub ids : shape.ids ≤ 256
  pub decls : shape.decls < 256
  pub most_items : shape.most_items ≤ 2 ^ 20
  pub most_entries : shape.most_entries ≤ 2 ^ 31
