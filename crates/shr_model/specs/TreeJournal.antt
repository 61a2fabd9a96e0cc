-- SPDX-License-Identifier: GPL-2.0-only
-- The journal of the tree: which groups were made, which began to go offline, and which were done
-- with it.
use Rattle.std.specs.Prelude.{◌≡◌, ℕ, ◌<◌, Bool, true, false, not, ◌&&◌, ◌||◌, ◌==◌, List, length, take, slice_get, find, Option, Some, None}
use Rattle.std.specs.List.{range_with_len, position_from}
use Rattle.std.specs.Option.{is_none, is_some, IsSome}
use Rattle.shr_base.specs.declared.journals.TreeEntry.{TreeEntry}
use Rattle.shr_base.specs.declared.journals.TreeEntry.TheVariants.{Begin, Done, Made}
use Rattle.shr_model.specs.Groups.{Hierarchy, parent_of, is_child, is_later}

-- the entry with which a group begins to go offline
abbrev pub is_begin : ℕ → TreeEntry → Bool
is_begin group (Begin g) = g == group
is_begin group (Done g) = false
is_begin group (Made g) = false

-- the entry with which a group is done
abbrev pub is_done : ℕ → TreeEntry → Bool
is_done group (Begin g) = false
is_done group (Done g) = g == group
is_done group (Made g) = false

-- the entry with which a later group is made
abbrev pub is_making : ℕ → TreeEntry → Bool
is_making group (Begin g) = false
is_making group (Done g) = false
is_making group (Made g) = g == group

-- the number of the group's Begin, where it stands in the journal
abbrev pub begin_of : List TreeEntry → ℕ → Option ℕ
begin_of entries group = position_from (is_begin group) 0 entries

-- the same for its Done
abbrev pub done_of : List TreeEntry → ℕ → Option ℕ
done_of entries group = position_from (is_done group) 0 entries

-- the same for its Made
abbrev pub made_of : List TreeEntry → ℕ → Option ℕ
made_of entries group = position_from (is_making group) 0 entries

-- a group is made after these entries: it isn't later, or its Made stands among them
abbrev pub is_made : Hierarchy → List TreeEntry → ℕ → Bool
is_made h entries group = not (is_later h.later group) || is_some (made_of entries group)

-- a group is a child that is made and isn't done
abbrev pub is_undone_child : Hierarchy → List TreeEntry → ℕ → ℕ → Bool
is_undone_child h entries group child = is_child h.parents group child && is_made h entries child && is_none (done_of entries child)

-- the lowest child of a group that is made and isn't done
abbrev pub undone_child : Hierarchy → List TreeEntry → ℕ → Option ℕ
undone_child h entries group = find (is_undone_child h entries group) (range_with_len 0 (length h.parents))

-- a group may be made after these entries: it is later, only once, and its parent is made and
-- didn't begin to go offline
pub record MayBeMade (h : Hierarchy) (before : List TreeEntry) (group : ℕ) : Type 0 where
  pub there : group < length h.parents
  pub late : is_later h.later group ≡ true
  pub once : made_of before group ≡ None
  pub parent : is_made h before (parent_of h.parents group) ≡ true
  pub online : begin_of before (parent_of h.parents group) ≡ None

-- a group may begin to go offline after these entries: never the root, only where it is made, only
-- once, and after all its children that are made are done
pub record MayBegin (h : Hierarchy) (before : List TreeEntry) (group : ℕ) : Type 0 where
  pub below : 0 < group
  pub there : group < length h.parents
  pub made : is_made h before group ≡ true
  pub once : begin_of before group ≡ None
  pub children : undone_child h before group ≡ None

-- a group may be done after these entries: after its Begin, and only once
pub record MayBeDone (before : List TreeEntry) (group : ℕ) : Type 0 where
  pub begun : IsSome (begin_of before group)
  pub once : done_of before group ≡ None

-- an entry may stand after these
abbrev pub MayFollow : Hierarchy → List TreeEntry → TreeEntry → Type 0
MayFollow h before (Begin g) = MayBegin h before g
MayFollow h before (Done g) = MayBeDone before g
MayFollow h before (Made g) = MayBeMade h before g

-- each entry may stand where it does
abbrev pub IsTreeJournal : Hierarchy → List TreeEntry → Type 0
IsTreeJournal h entries = (n : ℕ) (e : TreeEntry) → slice_get entries n ≡ Some e → MayFollow h (take n entries) e
