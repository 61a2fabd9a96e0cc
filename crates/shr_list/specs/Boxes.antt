-- SPDX-License-Identifier: GPL-2.0-only
-- How the journal and the objects of a list are boxed. No public clause cites this module.
use Rattle.std.specs.Prelude.{◌≡◌, ℕ, Bool, false, List, [], Option, Some, None, Box}
use Rattle.std.specs.declared.alloc.Global.{Global}
use Rattle.shr_base.specs.declared.journals.Entry.{Entry}
use Rattle.shr_list.specs.declared.contents.Inside.{Inside}
use Rattle.shr_list.specs.Nodes.{Queued}

-- the journal, how many more entries fit without memory, the objects, and whether the list is closed
pub record Stored : Type 0 where
  pub entries : List Entry
  pub spare : ℕ
  pub objects : Queued
  pub closed : Bool

-- no object
abbrev pub no_objects : Queued
no_objects = record { nodes = []; keys = []; items = [] }

-- no entry and no object
abbrev pub no_contents : Stored
no_contents = record { entries = []; spare = 0; objects = no_objects; closed = false }

-- what is in the box, nothing if there is none
abbrev pub contents_in : Option (Box Inside Global) → Stored
contents_in None = no_contents
contents_in (Some box) = record { entries = box.value.entries.items; spare = box.value.entries.spare; objects = box.value.queue; closed = box.value.closed }

-- the journal, its spare and the flag stay
pub record KeepsJournal (old new : Stored) : Type 0 where
  pub entries : new.entries ≡ old.entries
  pub spare : new.spare ≡ old.spare
  pub closed : new.closed ≡ old.closed
