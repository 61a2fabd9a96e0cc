-- SPDX-License-Identifier: GPL-2.0-only
-- A token with the tree room in hand. No public clause cites this.
use Rattle.std.specs.Prelude.{◌≡◌, ℕ, ◌*◌, ◌≤◌, true, false, List, [], ◌∷◌, length, Some, None}
use Rattle.shr_base.specs.Kept.{Kept}
use Rattle.shr_base.specs.declared.journals.TreeEntry.{TreeEntry}
use Rattle.shr_base.specs.declared.journals.TreeEntry.TheVariants.{Begin, Made as MadeEntry}
use Rattle.shr_model.specs.Groups.{Hierarchy, parent_of}
use Rattle.shr_model.specs.TreeJournal.{begin_of, done_of, made_of, is_made, undone_child, MayBegin, MayBeMade, IsTreeJournal}
use Rattle.shr_charge.specs.declared.answers.MakeAnswer.{MakeAnswer}
use Rattle.shr_charge.specs.declared.answers.MakeAnswer.TheVariants as make
use Rattle.shr_charge.specs.declared.answers.BeginAnswer.{BeginAnswer}
use Rattle.shr_charge.specs.declared.answers.BeginAnswer.TheVariants as began
use Rattle.shr_charge.specs.Answers.{GainsEntry}
use Rattle.shr_charge.specs.Views.{TreeView}
use Rattle.shr_charge.specs.Offlining.{opens, IsTreeSeen}
use Rattle.shr_charge.specs.Steps.{with_tree_hand, with_begin, with_made}
use Rattle.shr_charge.specs.Seat.{ChargeToken}

-- The token `new` is `old`, but for the room with this journal, which it has in hand.
pub record HoldsTreeRoom (old new : ChargeToken) (journal : List TreeEntry) : Type 0 where
  pub left : Kept TreeEntry
  pub now : new ≡ record old { me = (record old.me.0 { tree = with_tree_hand old.me.0.tree journal }, (0, left) ∷ []) }

-- what an answer of begin_offline leaves of a view that has the room in hand
abbrev pub hand_by : ℕ → BeginAnswer → TreeView → TreeView
hand_by g began.Root t = t
hand_by g (began.AlreadyDone entry) t = t
hand_by g (began.Resumed entry) t = t
hand_by g (began.NotMade group) t = t
hand_by g (began.HasChildren child entry) t = t
hand_by g began.Memory t = t
hand_by g (began.Begun entry) t = with_begin t g

-- what is said of the journal before an answer, and of the journal after it
abbrev pub Decides : Hierarchy → ℕ → BeginAnswer → List TreeEntry → List TreeEntry → Type 0
Decides h g began.Root before after = ⊥
Decides h g (began.AlreadyDone entry) before after = (after ≡ before) × (done_of before g ≡ Some entry)
Decides h g (began.Resumed entry) before after = (after ≡ before) × (done_of before g ≡ None) × (begin_of before g ≡ Some entry)
Decides h g (began.NotMade group) before after = (after ≡ before) × (done_of before g ≡ None) × (begin_of before g ≡ None) × (group ≡ g) × (is_made h before g ≡ false)
Decides h g (began.HasChildren child entry) before after = (after ≡ before) × (done_of before g ≡ None) × (begin_of before g ≡ None) × (is_made h before g ≡ true) × (undone_child h before g ≡ Some child) × (entry ≡ length before)
Decides h g began.Memory before after = (after ≡ before) × (done_of before g ≡ None) × MayBegin h before g
Decides h g (began.Begun entry) before after = GainsEntry before after (Begin g) entry × (done_of before g ≡ None) × MayBegin h before g

-- what an answer of make_group leaves of a view that has the room in hand
abbrev pub hand_made : ℕ → MakeAnswer → TreeView → TreeView
hand_made g (make.Made entry) t = with_made t g
hand_made g answer t = t

-- what is said of the journal before an answer, and of the journal after it
abbrev pub Settles : Hierarchy → ℕ → MakeAnswer → List TreeEntry → List TreeEntry → Type 0
Settles h g (make.AlreadyMade entry) before after = (after ≡ before) × (made_of before g ≡ Some entry)
Settles h g (make.NotMade group) before after = (after ≡ before) × (made_of before g ≡ None) × (group ≡ parent_of h.parents g) × (is_made h before group ≡ false)
Settles h g (make.Offline entry) before after = (after ≡ before) × (made_of before g ≡ None) × (is_made h before (parent_of h.parents g) ≡ true) × (begin_of before (parent_of h.parents g) ≡ Some entry)
Settles h g make.Memory before after = (after ≡ before) × MayBeMade h before g
Settles h g (make.Made entry) before after = GainsEntry before after (MadeEntry g) entry × MayBeMade h before g

-- what a taken room shows
pub record Shown (h : Hierarchy) (old : TreeView) (room : Kept TreeEntry) : Type 0 where
  pub legal : IsTreeJournal h room.items
  pub seen : IsTreeSeen h room.items old
  pub spare : opens (length h.parents) room.items ≤ room.spare
  pub short : length room.items ≤ 3 * length h.parents
