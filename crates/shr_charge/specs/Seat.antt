-- SPDX-License-Identifier: GPL-2.0-only
-- Seats of the charge table.
use Rattle.std.specs.Prelude.{◌≡◌, ℕ, ◌-◌, ◌^◌, ◌≤◌, min, true, false, ◌||◌, nat_le, cond, [], Option, Some, None}
use Rattle.atomic_table.specs.declared.shared.Seat.{Seat}
use Rattle.shr_base.specs.Kept.{Kept}
use Rattle.shr_base.specs.declared.journals.TreeEntry.{TreeEntry}
use Rattle.shr_base.specs.declared.replies.Spent.{Spent}
use Rattle.shr_base.specs.declared.replies.Spent.TheVariants.{Charges}
use Rattle.shr_seats.specs.Standing.{Standing, IsSeatOf, at_first, at_split, with_join}
use Rattle.shr_charge.specs.declared.table.Charge.{Charge}
use Rattle.shr_charge.specs.declared.table.FirstChargeSeat.{FirstChargeSeat}
use Rattle.shr_charge.specs.declared.view.View.{View}
use Rattle.shr_charge.specs.Steps.{joined_tree}
use Rattle.shr_charge.specs.Views.{Uses, TreeView, own_uses, no_tree, both_uses}
use Rattle.shr_charge.specs.Uses.{IsPaced}

-- what the table knows of a seat
abbrev pub ChargeToken : Type 0
ChargeToken = Seat (Kept TreeEntry) View

-- a seat and the table that it is of
pub record ChargeSeated : Type 0 where
  pub charge : Charge
  -- the operations that it made, and how often it was called
  pub uses : Uses
  -- what it did and saw of the tree
  pub tree : TreeView
  -- its place among the seats
  pub standing : Standing

-- the operations that a seat made, and how often it was called
abbrev pub uses_of : ChargeSeated → Uses
uses_of s = s.uses

-- what it did and saw of the tree
abbrev pub tree_of : ChargeSeated → TreeView
tree_of s = s.tree

-- its place among the seats
abbrev pub standing_of : ChargeSeated → Standing
standing_of s = s.standing

-- the seat that the table knows so
abbrev pub seated_at : Charge → ChargeToken → ChargeSeated
seated_at c t = record { charge = c; uses = t.me.0.uses; tree = t.me.0.tree; standing = t.me.0.standing }

-- a count stands still at the end of its type
abbrev pub counted : ℕ → ℕ
counted n = min n (2 ^ 32 - 1)

-- a token of this table, which was not joined away
abbrev pub IsTokenOf : Charge → ChargeToken → Type 0
IsTokenOf c t = IsSeatOf c.table.shared.table_id t.table_id t.me.0.standing

-- a seat of this table, which was not joined away and has not the room in hand
pub record IsChargeSeat (c : Charge) (t : ChargeToken) (charged uncharged : ℕ) : Type 0 where
  pub seat : IsTokenOf c t
  pub bare : t.me.1 ≡ []
  pub out : t.me.0.tree.in_hand ≡ false
  pub paced : IsPaced t.me.0.uses
  pub own : 1 ≤ t.me.0.uses.seats
  -- it counts its calls
  pub charges : charged ≡ counted t.me.0.uses.charges
  pub uncharges : uncharged ≡ counted t.me.0.uses.uncharges

-- the first seat of this table
pub record IsFirstChargeOf (c : Charge) (s : FirstChargeSeat) : Type 0 where
  pub seat : IsChargeSeat c s.token s.charges s.uncharges
  pub first : s.token.me.0.standing.first ≡ true

-- the first seat at its table
abbrev pub first_seated : Charge → FirstChargeSeat → ChargeSeated
first_seated c s = seated_at c s.token

-- the operations that the first seat made, and how often it was called
abbrev pub first_uses : FirstChargeSeat → Uses
first_uses s = s.token.me.0.uses

-- what it did and saw of the tree
abbrev pub first_tree : FirstChargeSeat → TreeView
first_tree s = s.token.me.0.tree

-- its place among the seats
abbrev pub first_standing : FirstChargeSeat → Standing
first_standing s = s.token.me.0.standing

-- the first seat of a new table
abbrev pub opener_seated : Charge → ChargeSeated
opener_seated c = record { charge = c; uses = own_uses; tree = no_tree; standing = at_first }

-- a seat that was split off
abbrev pub new_seated : Charge → ChargeSeated
new_seated c = record { charge = c; uses = own_uses; tree = no_tree; standing = at_split }

-- the first seat, with what another did and saw that was joined into it
abbrev pub joined_seated : ChargeSeated → ChargeSeated → ChargeSeated
joined_seated s other = record s { uses = both_uses s.uses other.uses; tree = joined_tree s.tree other.tree; standing = with_join s.standing }

-- a seat is worn out that was called to charge 2 ^ 20 times or to uncharge 2 ^ 22 times
abbrev pub spent_by : Uses → Option Spent
spent_by u = cond (nat_le (2 ^ 20) u.charges || nat_le (2 ^ 22) u.uncharges) (Some (Charges (counted u.charges) (counted u.uncharges))) None
