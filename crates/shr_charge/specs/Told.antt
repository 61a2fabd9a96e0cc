-- SPDX-License-Identifier: GPL-2.0-only
-- What the steps tell, in terms of a seat of the table.
use Rattle.std.specs.Prelude.{◌≡◌, ◌⊎◌, ℕ, ◌-◌, ◌*◌, ◌^◌, ◌<◌, ◌≤◌, Bool, true, false, ◌==◌, cond, [], ◌∷◌, length, Some, All, Contains}
use Rattle.atomic_table.specs.Table.{Me}
use Rattle.shr_base.specs.Kept.{Kept}
use Rattle.shr_base.specs.declared.journals.TreeEntry.{TreeEntry}
use Rattle.shr_charge.specs.declared.answers.GroupState.{GroupState}
use Rattle.shr_charge.specs.declared.answers.GroupState.TheVariants.{Online, Offline, NotMade}
use Rattle.shr_model.specs.Groups.{Hierarchy, is_later}
use Rattle.shr_model.specs.TreeJournal.{begin_of, is_made, IsTreeJournal}
use Rattle.shr_charge.specs.declared.view.View.{View}
use Rattle.shr_base.specs.declared.journals.UseStep.{UseStep}
use Rattle.shr_charge.specs.Charging.{IsLaterThan}
use Rattle.shr_charge.specs.Views.{Uses, TreeView, both_uses, one_use}
use Rattle.shr_charge.specs.Offlining.{opens, IsTreeSeen}
use Rattle.shr_charge.specs.Steps.{with_tree_hand}

-- a seat as the table knows it: its view, and the slots that it has taken
abbrev pub ChargeSat : Type 0
ChargeSat = Me (Kept TreeEntry) View

-- the seat with these operations and calls
abbrev pub with_uses : ChargeSat → Uses → ChargeSat
with_uses m u = (record m.0 { uses = u }, m.1)

-- the seat gained this operation with so many calls, whose number is above those of its others in the group and has 32 bits
abbrev pub TellsUse : ChargeSat → UseStep → ℕ → ℕ → ChargeSat → Type 0
TellsUse m o charges uncharges r = (r ≡ with_uses m (both_uses m.0.uses (one_use o charges uncharges))) × All (IsLaterThan o) m.0.uses.ops × (o.operation < 2 ^ 32)

-- the seat that did and saw this of the tree
abbrev pub with_tree : ChargeSat → TreeView → ChargeSat
with_tree m t = (record m.0 { tree = t }, m.1)

-- the seat that gave the room back, and did and saw this of the tree
abbrev pub with_room_back : ChargeSat → TreeView → ChargeSat
with_room_back m t = (record m.0 { tree = t }, [])

-- a group is online or offline
abbrev pub is_there : GroupState → Bool
is_there Online = true
is_there (Offline entry) = true
is_there NotMade = false

-- what a group word says agrees with what the view knows of the group
pub record Shows (h : Hierarchy) (t : TreeView) (g : ℕ) (state : GroupState) : Type 0 where
  -- the Begin that it knows
  pub known : (e : ℕ) → begin_of t.known g ≡ Some e → state ≡ Offline e
  -- the Begin that it loaded before
  pub loaded : (e : ℕ) → Contains t.loaded (record { group = g; state = Offline e }) → state ≡ Offline e
  -- a group that it knows to be made, or met before, is there
  pub made : is_made h t.known g ≡ true → is_there state ≡ true
  pub met : (before : GroupState) → is_there before ≡ true → Contains t.loaded (record { group = g; state = before }) → is_there state ≡ true
  -- one that isn't is a later one
  pub late : state ≡ NotMade → is_later h.later g ≡ true

-- the state of a group that a word tells of
abbrev pub state_in : ℕ → GroupState
state_in w = cond (w == 0) Online (cond (w == 2 ^ 63) NotMade (Offline (w - 1)))

-- a group word is 2^63, or at most one more than the number of an entry
abbrev pub IsWord : ℕ → ℕ → Type 0
IsWord groups w = (w ≡ 2 ^ 63) ⊎ (w ≤ 3 * groups)

-- the room was taken: its journal is legal and holds what the view knows, and there is room for
-- each open group's Done
pub record TakesTreeRoom (h : Hierarchy) (m r : ChargeSat) : Type 0 where
  pub room : Kept TreeEntry
  pub seat : r ≡ (record m.0 { tree = with_tree_hand m.0.tree room.items }, (0, room) ∷ [])
  pub legal : IsTreeJournal h room.items
  pub seen : IsTreeSeen h room.items m.0.tree
  pub spare : opens (length h.parents) room.items ≤ room.spare
  pub short : length room.items ≤ 3 * length h.parents
