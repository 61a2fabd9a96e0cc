-- SPDX-License-Identifier: GPL-2.0-only
-- The group words, the tree room with the journal of the tree, and what the views know of it.
use Rattle.std.specs.Prelude.{◌≡◌, ℕ, zero, suc, ◌+◌, ◌<◌, ◌≤◌, true, ◌&&◌, ◌==◌, ◌^◌, nat_lt, cond, List, length, slice_get, sum_by, count_by, Option, Some, None, All}
use Rattle.std.specs.Option.{is_some, is_none}
use mathlib.Core.Option.{some}
use lib.ListN.{get_elem?}
use Rattle.shr_base.specs.Kept.{Kept}
use Rattle.shr_base.specs.declared.journals.TreeEntry.{TreeEntry}
use Rattle.shr_charge.specs.declared.answers.GroupState.{GroupState}
use Rattle.shr_charge.specs.declared.answers.GroupState.TheVariants.{Online, Offline, NotMade}
use Rattle.shr_model.specs.Groups.{Hierarchy}
use Rattle.shr_model.specs.TreeJournal.{begin_of, done_of, made_of, is_made, IsTreeJournal}
use Rattle.shr_seats.specs.Views.{Each}
use Rattle.shr_seats.specs.Weights.{Begins}
use Rattle.shr_charge.specs.Views.{TreeMade, LoadedState, TreeView}

-- the first list is a prefix of the second
abbrev pub IsPrefix : {A : Type 0} → List A → List A → Type 0
IsPrefix xs ys = Begins xs ys

-- the state of a group that is made, by its Begin
abbrev pub begun_state : Option ℕ → GroupState
begun_state None = Online
begun_state (Some e) = Offline e

-- the state of a group by the journal
abbrev pub state_at : Hierarchy → List TreeEntry → ℕ → GroupState
state_at h journal g = cond (is_made h journal g) (begun_state (begin_of journal g)) NotMade

-- the word that tells of a state: 0, or the number of the Begin and one, or 2^63
abbrev pub state_word : GroupState → ℕ
state_word Online = 0
state_word (Offline entry) = entry + 1
state_word NotMade = 2 ^ 63

-- a sum over the groups below n
abbrev pub sum_below : (ℕ → ℕ) → ℕ → ℕ
sum_below f zero = 0
sum_below f (suc n) = sum_below f n + f n

-- the entries of a group
abbrev pub count_of_entries : List TreeEntry → ℕ → ℕ
count_of_entries es g = cond (is_some (begin_of es g)) 1 0 + cond (is_some (done_of es g)) 1 0 + cond (is_some (made_of es g)) 1 0

-- 1 for a group that began and isn't done
abbrev pub is_open : List TreeEntry → ℕ → ℕ
is_open es g = cond (is_some (begin_of es g) && is_none (done_of es g)) 1 0

-- how many groups began and aren't done
abbrev pub opens : ℕ → List TreeEntry → ℕ
opens groups es = sum_below (is_open es) groups

-- how many of the entries that were made have this number
abbrev pub times_noted : ℕ → List TreeMade → ℕ
times_noted n made = count_by (λ (m : TreeMade). m.number == n) made

-- an entry that was made stands at its number
abbrev pub IsTreeEntryMade : List TreeEntry → TreeMade → Type 0
IsTreeEntryMade journal m = slice_get journal m.number ≡ Some m.entry

-- a state that was met is so of the journal: a group that was online or offline is made, and one
-- that was offline began by that entry; one that wasn't made may be made by now
abbrev pub WasState : Hierarchy → List TreeEntry → ℕ → GroupState → Type 0
WasState h journal g Online = is_made h journal g ≡ true
WasState h journal g (Offline entry) = (is_made h journal g ≡ true) × (begin_of journal g ≡ Some entry)
WasState h journal g NotMade = Unit {0}

-- what a loaded word said was so
abbrev pub IsNamed : Hierarchy → List TreeEntry → LoadedState → Type 0
IsNamed h journal l = WasState h journal l.group l.state

-- a prefix that some seat knew is one of the journal
abbrev pub IsHeard : List TreeEntry → List TreeEntry → Type 0
IsHeard journal es = IsPrefix es journal

-- what a view knows is so of the journal
pub record IsTreeSeen (h : Hierarchy) (journal : List TreeEntry) (t : TreeView) : Type 0 where
  pub known : IsPrefix t.known journal
  pub heard : All (IsHeard journal) t.heard
  pub hand : t.in_hand ≡ true → t.hand ≡ journal
  pub loaded : All (IsNamed h journal) t.loaded
  pub made : All (IsTreeEntryMade journal) t.made

-- the room at home holds the journal, with room for the Done of each group that began and isn't
-- done
pub record IsHome (groups : ℕ) (journal : List TreeEntry) (room : Kept TreeEntry) : Type 0 where
  pub items : room.items ≡ journal
  pub spare : opens groups journal ≤ room.spare

-- the journal of the tree is legal, and the group words, the room and the views are by it
pub record IsOfflined (h : Hierarchy) (journal : List TreeEntry) (word : ℕ → ℕ) (lock : ℕ) (homes : List (mathlib.Core.Option.Option (Kept TreeEntry))) (trees : List TreeView) : Type 0 where
  pub legal : IsTreeJournal h journal
  pub counted : length journal ≡ sum_below (count_of_entries journal) (length h.parents)
  pub words : (g : ℕ) → g < length h.parents → word g ≡ state_word (state_at h journal g)
  -- the lock word is the number of seats with the room in hand, at most one
  pub locks : count_by (λ (t : TreeView). t.in_hand) trees ≡ lock
  pub one : lock ≤ 1
  pub home : lock ≡ 0 → (room : Kept TreeEntry) × (get_elem? homes 0 ≡ some (some room)) × IsHome (length h.parents) journal room
  pub seen : Each (IsTreeSeen h journal) trees
  -- each entry of the journal is made in one view
  pub once : (n : ℕ) → sum_by (λ t. times_noted n t.made) trees ≡ cond (nat_lt n (length journal)) 1 0
