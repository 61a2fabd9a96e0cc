-- SPDX-License-Identifier: GPL-2.0-only
-- Which lists of a subtree were looked at, and found open; that of its highest group counts as open. No
-- public clause cites this.
use Rattle.std.specs.Prelude.{◌≡◌, ◌⊎◌, ℕ, ◌<◌, Bool, true, false, List, slice_index_or}
use Rattle.shr_model.specs.PlaceNumbers.{place_number}
use Rattle.shr_model.specs.Groups.{parent_of, IsAtOrAbove}
use Rattle.shr_core.specs.declared.view.View.{View}
use Rattle.shr_seats.specs.declared.shape.Shape.{Shape}
use Rattle.shr_node.specs.Gains.{KnowsClosed}
use Rattle.shr_node.specs.Splicing.{group_place}

-- the list of a group is marked as one that was found open
abbrev pub IsMarked : List Bool → ℕ → Type 0
IsMarked marks at = slice_index_or marks at false ≡ true

-- a list was looked at: that of the group itself, or of a child of one that was found open
abbrev pub IsLookedAt : List ℕ → ℕ → List Bool → ℕ → Type 0
IsLookedAt parents group marks at = (at ≡ group) ⊎ ((group < at) × IsMarked marks (parent_of parents at))

-- of the groups below a number those that are marked are at or below the group, and where a list
-- was looked at and isn't marked, the seat knows that it is closed
pub record AreLooked (shape : Shape) (w : View) (id node group : ℕ) (marks : List Bool) (top : ℕ) : Type 0 where
  pub below : (at : ℕ) → at < top → IsMarked marks at → IsAtOrAbove shape.parents.items group at
  pub closed : (at : ℕ) → at < top → IsLookedAt shape.parents.items group marks at → slice_index_or marks at false ≡ false → KnowsClosed w (place_number (group_place id node at))
