-- SPDX-License-Identifier: GPL-2.0-only
-- The parts of a view of the charge table.
use Rattle.std.specs.Prelude.{ℕ, Bool, false, ◌+◌, List, [], ◌∷◌, ◌++◌}
use Rattle.shr_base.specs.declared.journals.UseStep.{UseStep}
use Rattle.shr_base.specs.declared.journals.TreeEntry.{TreeEntry}
use Rattle.shr_charge.specs.declared.answers.GroupState.{GroupState}

-- the operations that a seat made, in order, and how often it was called to charge and to uncharge
pub record Uses : Type 0 where
  pub ops : List UseStep
  pub charges : ℕ
  pub uncharges : ℕ
  -- of how many seats these are the calls: its own, and those that were joined into it
  pub seats : ℕ

-- an entry of the journal of the tree, with its number
pub record TreeMade : Type 0 where
  pub number : ℕ
  pub entry : TreeEntry

-- what a group word said when it was loaded
pub record LoadedState : Type 0 where
  pub group : ℕ
  pub state : GroupState

-- what a seat did and saw of the tree: of groups that are made and go offline
pub record TreeView : Type 0 where
  -- the entries that it made
  pub made : List TreeMade
  -- the prefix of the journal that it knows, and how often it gave the room back
  pub known : List TreeEntry
  pub gives : ℕ
  -- the prefixes that the seats knew which were joined into it
  pub heard : List (List TreeEntry)
  -- the group words that it loaded, in order
  pub loaded : List LoadedState
  -- whether it has the room in hand, and then the journal
  pub in_hand : Bool
  pub hand : List TreeEntry

-- no operation and no call, of no seat
abbrev pub no_uses : Uses
no_uses = record { ops = []; charges = 0; uncharges = 0; seats = 0 }

-- no operation and no call, of one seat
abbrev pub own_uses : Uses
own_uses = record { ops = []; charges = 0; uncharges = 0; seats = 1 }

-- nothing done or seen of the tree
abbrev pub no_tree : TreeView
no_tree = record { made = []; known = []; gives = 0; heard = []; loaded = []; in_hand = false; hand = [] }

-- the operations and calls of both, those of u first
abbrev pub both_uses : Uses → Uses → Uses
both_uses u w = record { ops = u.ops ++ w.ops; charges = u.charges + w.charges; uncharges = u.uncharges + w.uncharges; seats = u.seats + w.seats }

-- one operation, which begins a charge or an uncharge or goes on with one
abbrev pub one_use : UseStep → ℕ → ℕ → Uses
one_use o c d = record { ops = o ∷ []; charges = c; uncharges = d; seats = 0 }
