-- SPDX-License-Identifier: GPL-2.0-only
-- The journal of the tree, by what it says of each group.
use Rattle.std.specs.Prelude.{◌≡◌, ℕ, ◌<◌, Bool, true, false, not, List, length, slice_get, slice_set, Option, Some, None, is_some}
use Rattle.shr_base.specs.declared.journals.TreeEntry.{TreeEntry}
use Rattle.shr_base.specs.declared.journals.TreeEntry.TheVariants.{Begin, Done, Made}
use Rattle.shr_model.specs.Groups.{Hierarchy, parent_of, is_later}
use Rattle.shr_model.specs.TreeJournal.{begin_of, done_of, is_made}
use Rattle.shr_audit_charges.specs.declared.tree.GroupState.{GroupState}

-- groups by their parents, and whether each is later
abbrev pub hierarchy : List ℕ → List Bool → Hierarchy
hierarchy parents later = record { parents = parents; later = later }

-- the group that an entry speaks of
abbrev pub entry_group : TreeEntry → ℕ
entry_group (Begin group) = group
entry_group (Done group) = group
entry_group (Made group) = group

-- what a journal says of a group
abbrev pub state_of_group : Hierarchy → List TreeEntry → ℕ → GroupState
state_of_group h es group = record { made = is_made h es group; begun = is_some (begin_of es group); done = is_some (done_of es group) }

-- the states of all groups after a journal
pub record AreGroupStatesOf (h : Hierarchy) (es : List TreeEntry) (states : List GroupState) : Type 0 where
  pub count : length states ≡ length h.parents
  pub each : (group : ℕ) (x : GroupState) → slice_get states group ≡ Some x → x ≡ state_of_group h es group

-- the states before any entry
pub record AreFirstStates (later : List Bool) (states : List GroupState) : Type 0 where
  pub count : length states ≡ length later
  pub each : (group : ℕ) (x : GroupState) → slice_get states group ≡ Some x → x ≡ record { made = not (is_later later group); begun = false; done = false }

-- the state of a group after one entry more that is of it
abbrev pub group_state_with : GroupState → TreeEntry → GroupState
group_state_with x (Begin group) = record { made = x.made; begun = true; done = x.done }
group_state_with x (Done group) = record { made = x.made; begun = x.begun; done = true }
group_state_with x (Made group) = record { made = true; begun = x.begun; done = x.done }

-- the states with that of the entry's group changed, if it is one of these
abbrev pub put_group_state : List GroupState → TreeEntry → Option GroupState → List GroupState
put_group_state states e None = states
put_group_state states e (Some x) = slice_set states (entry_group e) (group_state_with x e)

-- the states after one entry more
abbrev pub with_tree_entry : List GroupState → TreeEntry → List GroupState
with_tree_entry states e = put_group_state states e (slice_get states (entry_group e))

-- the state of this group is so
abbrev pub GroupStateIs : List GroupState → ℕ → (GroupState → Type 0) → Type 0
GroupStateIs states group P = (x : GroupState) × ((slice_get states group ≡ Some x) × P x)

-- a group is a child that is there and isn't done
abbrev pub IsUndone : List ℕ → List GroupState → ℕ → ℕ → Type 0
IsUndone parents states group child = (0 < child) × ((parent_of parents child ≡ group) × GroupStateIs states child (λ x. (x.made ≡ true) × (x.done ≡ false)))

-- a group has such a child
abbrev pub HasUndone : List ℕ → List GroupState → ℕ → Type 0
HasUndone parents states group = (child : ℕ) × IsUndone parents states group child

-- a group may begin to go offline
abbrev pub MayBeginNow : List ℕ → List GroupState → ℕ → Type 0
MayBeginNow parents states group = (0 < group) × (GroupStateIs states group (λ x. (x.made ≡ true) × (x.begun ≡ false)) × (HasUndone parents states group → ⊥))

-- a group may be done
abbrev pub MayBeDoneNow : List GroupState → ℕ → Type 0
MayBeDoneNow states group = GroupStateIs states group (λ x. (x.begun ≡ true) × (x.done ≡ false))

-- a group may be made
abbrev pub MayBeMadeNow : List ℕ → List Bool → List GroupState → ℕ → Type 0
MayBeMadeNow parents later states group = (is_later later group ≡ true) × (GroupStateIs states group (λ x. x.made ≡ false) × GroupStateIs states (parent_of parents group) (λ x. (x.made ≡ true) × (x.begun ≡ false)))

-- an entry may follow those that left these states
abbrev pub MayStandNow : List ℕ → List Bool → List GroupState → TreeEntry → Type 0
MayStandNow parents later states (Begin group) = MayBeginNow parents states group
MayStandNow parents later states (Done group) = MayBeDoneNow states group
MayStandNow parents later states (Made group) = MayBeMadeNow parents later states group
