-- SPDX-License-Identifier: GPL-2.0-only
-- The lists that the places of an id on a node give to those of their parent groups.
use Rattle.std.specs.Prelude.{◌≡◌, ℕ, false, if◌then◌else◌, List, [], length, slice_index_or}
use Rattle.shr_base.specs.declared.objects.Object.{Object}
use Rattle.shr_base.specs.declared.journals.Entry.{Entry}
use Rattle.shr_base.specs.declared.journals.Entry.TheVariants.{MovedIn}
use Rattle.shr_list.specs.Nodes.{Queued}
use Rattle.shr_model.specs.Groups.{is_child}
use Rattle.shr_model.specs.Families.{without_child}

-- a list without objects
abbrev pub no_queue : Queued
no_queue = record { nodes = []; keys = []; items = [] }

-- the objects that the list of a group still has to give, none past the last list
abbrev pub given_by : List Queued → ℕ → List Object
given_by lists group = (slice_index_or lists group no_queue).items

-- what is still to be taken from each group's list: nothing where it is no child
abbrev pub took_of : List ℕ → ℕ → List Queued → ℕ → List Object
took_of parents group lists child = if is_child parents group child then given_by lists child else []

-- what is still to be taken after an entry
abbrev pub took_after : (ℕ → List Object) → Entry → ℕ → List Object
took_after took (MovedIn child objects) = without_child child took
took_after took e = took

-- there are as many lists, and those of groups that aren't children of this one are as they were
pub record KeepsOthers (parents : List ℕ) (group : ℕ) (old new : List Queued) : Type 0 where
  pub count : length new ≡ length old
  pub others : (other : ℕ) → is_child parents group other ≡ false → given_by new other ≡ given_by old other
