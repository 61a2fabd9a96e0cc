-- SPDX-License-Identifier: GPL-2.0-only
-- What a journal of the tree says of a group.
use Rattle.std.specs.Prelude.{◌≡◌, ℕ, ◌<◌, Bool, false, List, slice_index_or, Option}
use Rattle.std.specs.List.{position_from}
use Rattle.std.specs.Option.{is_some}
use Rattle.shr_base.specs.declared.journals.TreeEntry.{TreeEntry}
use Rattle.shr_base.specs.declared.journals.TreeEntry.TheVariants.{Begin, Done, Made}
use Rattle.shr_model.specs.TreeJournal.{is_begin, is_done, is_making, made_of, done_of}
use Rattle.shr_charge.specs.declared.searching.Marks.{Marks}

-- an entry is of the same kind and group as the first
abbrev pub is_like : TreeEntry → TreeEntry → Bool
is_like (Begin group) = is_begin group
is_like (Done group) = is_done group
is_like (Made group) = is_making group

-- the number of the first entry like this one
abbrev pub entry_number : TreeEntry → List TreeEntry → Option ℕ
entry_number wanted entries = position_from (is_like wanted) 0 entries

-- a group is marked
abbrev pub is_marked : List Bool → ℕ → Bool
is_marked marks group = slice_index_or marks group false

-- the groups that were made are marked, and those that are done
pub record AreMarkedGroups (entries : List TreeEntry) (marks : Marks) : Type 0 where
  pub made : (group : ℕ) → group < 256 → is_marked marks.made group ≡ is_some (made_of entries group)
  pub done : (group : ℕ) → group < 256 → is_marked marks.done group ≡ is_some (done_of entries group)
