-- SPDX-License-Identifier: GPL-2.0-only
-- What the calls of making groups and of going offline answer, and what they leave of a seat.
use Rattle.std.specs.Prelude.{◌≡◌, ℕ, ◌+◌, ◌<◌, true, false, List, [], ◌∷◌, ◌++◌, length, Some, None}
use Rattle.shr_base.specs.declared.journals.TreeEntry.{TreeEntry}
use Rattle.shr_base.specs.declared.journals.TreeEntry.TheVariants.{Begin, Done, Made as MadeEntry}
use Rattle.shr_model.specs.Groups.{Hierarchy, parent_of}
use Rattle.shr_model.specs.TreeJournal.{begin_of, done_of, made_of, is_made, undone_child, MayBegin, MayBeDone, MayBeMade, IsTreeJournal}
use Rattle.shr_charge.specs.declared.answers.MakeAnswer.{MakeAnswer}
use Rattle.shr_charge.specs.declared.answers.MakeAnswer.TheVariants as make
use Rattle.shr_charge.specs.declared.answers.BeginAnswer.{BeginAnswer}
use Rattle.shr_charge.specs.declared.answers.BeginAnswer.TheVariants as began
use Rattle.shr_charge.specs.declared.answers.DoneAnswer.{DoneAnswer}
use Rattle.shr_charge.specs.declared.answers.DoneAnswer.TheVariants as ended
use Rattle.shr_charge.specs.Views.{TreeMade, TreeView}
use Rattle.shr_charge.specs.Offlining.{IsPrefix, IsTreeSeen}

-- the room was given back with this journal, and these entries were made
abbrev pub gave : TreeView → List TreeMade → List TreeEntry → TreeView
gave t made journal = record t { made = t.made ++ made; known = journal; gives = t.gives + 1; in_hand = false; hand = [] }

-- the journal that is known now is legal, and holds all that was known, loaded and made
pub record KnowsTree (h : Hierarchy) (old new : TreeView) : Type 0 where
  pub legal : IsTreeJournal h new.known
  pub grows : IsPrefix old.known new.known
  pub seen : IsTreeSeen h new.known new

-- a journal that was one entry shorter
pub record GainsEntry (before after : List TreeEntry) (e : TreeEntry) (number : ℕ) : Type 0 where
  pub whole : after ≡ before ++ e ∷ []
  pub number_is : number ≡ length before

-- the group is below the root, and done by this entry
pub record WasDone (g entry : ℕ) (journal : List TreeEntry) : Type 0 where
  pub below_root : 0 < g
  pub done : done_of journal g ≡ Some entry

-- the group began by this entry and isn't done
pub record WasBegun (g entry : ℕ) (journal : List TreeEntry) : Type 0 where
  pub below_root : 0 < g
  pub undone : done_of journal g ≡ None
  pub begun : begin_of journal g ≡ Some entry

-- the group is made and didn't begin, and this child, the lowest such, is made and isn't done among
-- the entries that there are
pub record HasUndoneChild (h : Hierarchy) (g child entry : ℕ) (journal : List TreeEntry) : Type 0 where
  pub below_root : 0 < g
  pub undone : done_of journal g ≡ None
  pub fresh : begin_of journal g ≡ None
  pub there : is_made h journal g ≡ true
  pub lowest : undone_child h journal g ≡ Some child
  pub all : entry ≡ length journal

-- the group, which is told, isn't made, and so it didn't begin
pub record WasNotMade (h : Hierarchy) (g group : ℕ) (journal : List TreeEntry) : Type 0 where
  pub below_root : 0 < g
  pub undone : done_of journal g ≡ None
  pub fresh : begin_of journal g ≡ None
  pub same : group ≡ g
  pub not_made : is_made h journal g ≡ false

-- the group may begin, and it didn't
pub record MightBegin (h : Hierarchy) (g : ℕ) (journal : List TreeEntry) : Type 0 where
  pub undone : done_of journal g ≡ None
  pub may : MayBegin h journal g

-- the group began by this entry; what the view had seen before is so of the journal without it
pub record HasBegun (h : Hierarchy) (g entry : ℕ) (old : TreeView) (journal : List TreeEntry) : Type 0 where
  pub before : List TreeEntry
  pub gains : GainsEntry before journal (Begin g) entry
  pub undone : done_of before g ≡ None
  pub may : MayBegin h before g
  pub seen : IsTreeSeen h before old

-- the group is done by this entry; what the view had seen before is so of the journal without it
pub record IsDoneNow (h : Hierarchy) (g entry : ℕ) (old : TreeView) (journal : List TreeEntry) : Type 0 where
  pub before : List TreeEntry
  pub gains : GainsEntry before journal (Done g) entry
  pub may : MayBeDone before g
  pub seen : IsTreeSeen h before old

-- what an answer of begin_offline says of the journal that was given back
abbrev pub BeginTells : Hierarchy → ℕ → BeginAnswer → TreeView → List TreeEntry → Type 0
BeginTells h g began.Root old journal = g ≡ 0
BeginTells h g (began.AlreadyDone entry) old journal = WasDone g entry journal
BeginTells h g (began.Resumed entry) old journal = WasBegun g entry journal
BeginTells h g (began.NotMade group) old journal = WasNotMade h g group journal
BeginTells h g (began.HasChildren child entry) old journal = HasUndoneChild h g child entry journal
BeginTells h g began.Memory old journal = MightBegin h g journal
BeginTells h g (began.Begun entry) old journal = HasBegun h g entry old journal

-- what begin_offline leaves of a view
abbrev pub BeginLeaves : ℕ → BeginAnswer → TreeView → TreeView → Type 0
BeginLeaves g began.Root old new = new ≡ old
BeginLeaves g (began.AlreadyDone entry) old new = new ≡ gave old [] new.known
BeginLeaves g (began.Resumed entry) old new = new ≡ gave old [] new.known
BeginLeaves g (began.NotMade group) old new = new ≡ gave old [] new.known
BeginLeaves g (began.HasChildren child entry) old new = new ≡ gave old [] new.known
BeginLeaves g began.Memory old new = new ≡ gave old [] new.known
BeginLeaves g (began.Begun entry) old new = new ≡ gave old ((record { number = entry; entry = Begin g }) ∷ []) new.known

-- P holds where the room was taken and given back
abbrev pub IfGiven : BeginAnswer → Type 0 → Type 0
IfGiven began.Root P = Unit {0}
IfGiven (began.AlreadyDone entry) P = P
IfGiven (began.Resumed entry) P = P
IfGiven (began.NotMade group) P = P
IfGiven (began.HasChildren child entry) P = P
IfGiven began.Memory P = P
IfGiven (began.Begun entry) P = P

-- the group has no Made, and its parent, which is told, isn't made
pub record LacksParent (h : Hierarchy) (g group : ℕ) (journal : List TreeEntry) : Type 0 where
  pub fresh : made_of journal g ≡ None
  pub parent : group ≡ parent_of h.parents g
  pub not_made : is_made h journal group ≡ false

-- the group has no Made, and its parent is made and began to go offline by this entry
pub record IsBelowOffline (h : Hierarchy) (g entry : ℕ) (journal : List TreeEntry) : Type 0 where
  pub fresh : made_of journal g ≡ None
  pub parent : is_made h journal (parent_of h.parents g) ≡ true
  pub begun : begin_of journal (parent_of h.parents g) ≡ Some entry

-- the group is made by this entry; what the view had seen before is so of the journal without it
pub record IsMadeNow (h : Hierarchy) (g entry : ℕ) (old : TreeView) (journal : List TreeEntry) : Type 0 where
  pub before : List TreeEntry
  pub gains : GainsEntry before journal (MadeEntry g) entry
  pub may : MayBeMade h before g
  pub seen : IsTreeSeen h before old

-- what an answer of make_group says of the journal that was given back
abbrev pub MakeTells : Hierarchy → ℕ → MakeAnswer → TreeView → List TreeEntry → Type 0
MakeTells h g (make.AlreadyMade entry) old journal = made_of journal g ≡ Some entry
MakeTells h g (make.NotMade group) old journal = LacksParent h g group journal
MakeTells h g (make.Offline entry) old journal = IsBelowOffline h g entry journal
MakeTells h g make.Memory old journal = MayBeMade h journal g
MakeTells h g (make.Made entry) old journal = IsMadeNow h g entry old journal

-- what make_group leaves of a view
abbrev pub MakeLeaves : ℕ → MakeAnswer → TreeView → TreeView → Type 0
MakeLeaves g (make.Made entry) old new = new ≡ gave old ((record { number = entry; entry = MadeEntry g }) ∷ []) new.known
MakeLeaves g answer old new = new ≡ gave old [] new.known

-- what an answer of done_offline says of the journal that was given back
abbrev pub DoneTells : Hierarchy → ℕ → DoneAnswer → TreeView → List TreeEntry → Type 0
DoneTells h g (ended.AlreadyDone entry) old journal = done_of journal g ≡ Some entry
DoneTells h g (ended.Done entry) old journal = IsDoneNow h g entry old journal

-- what done_offline leaves of a view
abbrev pub DoneLeaves : ℕ → DoneAnswer → TreeView → TreeView → Type 0
DoneLeaves g (ended.AlreadyDone entry) old new = new ≡ gave old [] new.known
DoneLeaves g (ended.Done entry) old new = new ≡ gave old ((record { number = entry; entry = Done g }) ∷ []) new.known
