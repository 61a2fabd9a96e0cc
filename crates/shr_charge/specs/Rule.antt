-- SPDX-License-Identifier: GPL-2.0-only
-- The rule of the charge table.
use Rattle.std.specs.Prelude.{◌≡◌, ℕ, ◌+◌, ◌*◌, ◌≤◌, List, map, length, slice_index, sum_by}
use Rattle.atomic_table.specs.Table.{State}
use Rattle.shr_base.specs.Kept.{Kept}
use Rattle.shr_base.specs.declared.journals.TreeEntry.{TreeEntry}
use Rattle.shr_seats.specs.Views.{Each}
use Rattle.shr_seats.specs.Standing.{Standing, at_first, at_split, at_end, with_split, with_join, AreSeats, AreEmptied}
use Rattle.shr_charge.specs.declared.view.View.{View}
use Rattle.shr_seats.specs.declared.shape.Shape.{Shape}
use Rattle.shr_charge.specs.Views.{Uses, TreeView, no_uses, own_uses, no_tree, both_uses}
use Rattle.shr_charge.specs.Uses.{UseHistories, AreUsed, IsPaced}
use Rattle.shr_charge.specs.Offlining.{IsOfflined}
use Rattle.shr_charge.specs.Steps.{joined_tree}
use Rattle.shr_seats.specs.Shapes.{hierarchy_of}

-- where the usage word of a group stands; the lock word is first, and each group has eight, of
-- which two are used
abbrev pub usage_index : ℕ → ℕ
usage_index g = 8 * g + 1

-- where the group word of a group stands
abbrev pub group_index : ℕ → ℕ
group_index g = 8 * g + 2

-- the usage word of a group
abbrev pub usage_in : List ℕ → ℕ → ℕ
usage_in words g = slice_index words (usage_index g)

-- the group word of a group
abbrev pub group_in : List ℕ → ℕ → ℕ
group_in words g = slice_index words (group_index g)

-- the lock word of the room with the journal of the tree
abbrev pub lock_in : List ℕ → ℕ
lock_in words = slice_index words 0

-- the operations and the calls of a view
abbrev pub uses_in : View → Uses
uses_in v = v.uses

-- what a view did and saw of the tree
abbrev pub tree_in : View → TreeView
tree_in v = v.tree

-- where a view stands among the seats
abbrev pub charge_standing_in : View → Standing
charge_standing_in v = v.standing

-- the view of the first seat of a new table
abbrev pub first_charge_view : View
first_charge_view = record { uses = own_uses; tree = no_tree; standing = at_first }

-- the view of a seat that was split off
abbrev pub new_charge_view : View
new_charge_view = record { uses = own_uses; tree = no_tree; standing = at_split }

-- what is left of the view of a seat that was joined into the first
abbrev pub spent_charge_view : View
spent_charge_view = record { uses = no_uses; tree = no_tree; standing = at_end }

-- the first view, split once more
abbrev pub split_charge_view : View → View
split_charge_view v = record v { standing = with_split v.standing }

-- the first view, with what another did and saw that was joined into it
abbrev pub joined_charge_view : View → View → View
joined_charge_view v u = record { uses = both_uses v.uses u.uses; tree = joined_tree v.tree u.tree; standing = with_join v.standing }

-- the rule of the charge table, which holds between any two steps
pub record IsChargeSound (k : Shape) (s : State (Kept TreeEntry) View) : Type 0 where
  -- what each group's operations and the entries of the journal are now
  pub history : UseHistories
  pub journal : List TreeEntry
  pub wide : length s.words ≡ 8 * length k.parents.items + 1
  pub used : AreUsed (length k.parents.items) (usage_in s.words) history (map uses_in s.views)
  pub paced : Each IsPaced (map uses_in s.views)
  -- the calls are those of as many seats as there are
  pub calls : sum_by (λ u. u.seats) (map uses_in s.views) ≤ length s.views
  pub offlined : IsOfflined (hierarchy_of k) journal (group_in s.words) (lock_in s.words) s.homes (map tree_in s.views)
  pub seats : AreSeats (map charge_standing_in s.views)
  pub few : length s.views ≤ 65
  pub emptied : AreEmptied charge_standing_in spent_charge_view s.views
