-- SPDX-License-Identifier: GPL-2.0-only
-- What the steps do to a view.
use Rattle.std.specs.Prelude.{ℕ, true, false, ◌+◌, List, [], ◌∷◌, ◌++◌, length}
use Rattle.shr_base.specs.declared.journals.TreeEntry.{TreeEntry}
use Rattle.shr_base.specs.declared.journals.TreeEntry.TheVariants.{Begin, Done, Made}
use Rattle.shr_charge.specs.declared.answers.GroupState.{GroupState}
use Rattle.shr_charge.specs.Views.{TreeView}

-- a group word was loaded
abbrev pub with_load : TreeView → ℕ → GroupState → TreeView
with_load t g state = record t { loaded = t.loaded ++ (record { group = g; state = state }) ∷ [] }

-- the room was taken with this journal
abbrev pub with_tree_hand : TreeView → List TreeEntry → TreeView
with_tree_hand t journal = record t { in_hand = true; hand = journal }

-- the room was given back: its journal is known
abbrev pub with_tree_given : TreeView → TreeView
with_tree_given t = record t { known = t.hand; gives = t.gives + 1; in_hand = false; hand = [] }

-- a group began: its word was stored, and its Begin stands in the journal
abbrev pub with_begin : TreeView → ℕ → TreeView
with_begin t g = record t { made = t.made ++ (record { number = length t.hand; entry = Begin g }) ∷ []; hand = t.hand ++ Begin g ∷ [] }

-- a group was made: its word was stored, and its Made stands in the journal
abbrev pub with_made : TreeView → ℕ → TreeView
with_made t g = record t { made = t.made ++ (record { number = length t.hand; entry = Made g }) ∷ []; hand = t.hand ++ Made g ∷ [] }

-- the room was given back with the Done of a group
abbrev pub with_done : TreeView → ℕ → TreeView
with_done t g = record t { made = t.made ++ (record { number = length t.hand; entry = Done g }) ∷ []; known = t.hand ++ Done g ∷ []; gives = t.gives + 1; in_hand = false; hand = [] }

-- the first view with what another did and saw, and each beginning that it knew
abbrev pub joined_tree : TreeView → TreeView → TreeView
joined_tree t u = record t { made = t.made ++ u.made; gives = t.gives + u.gives; heard = t.heard ++ u.known ∷ u.heard; loaded = t.loaded ++ u.loaded }
