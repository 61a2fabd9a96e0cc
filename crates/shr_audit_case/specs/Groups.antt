-- SPDX-License-Identifier: GPL-2.0-only
-- The journals of all groups for one id on one node, replayed together.
use Rattle.std.specs.Prelude.{◌≡◌, ℕ, ◌+◌, ◌<◌, List, [], length, slice_get, slice_index, Option, Some, None}
use Rattle.shr_base.specs.declared.ends.PlaceEnd.{PlaceEnd}
use Rattle.shr_base.specs.declared.journals.Entry.{Entry}
use Rattle.shr_base.specs.declared.objects.Object.{Object}
use Rattle.shr_base.specs.declared.places.Place.{Place}
use Rattle.shr_model.specs.Families.{Family, lists_moved_at}
use Rattle.shr_model.specs.Places.{at_group}
use Rattle.shr_audit_case.specs.declared.journal.Replayed.{Replayed}
use Rattle.shr_audit_case.specs.Journals.{IsReplayed}

-- the journal of a place that is printed, or the empty one
abbrev pub printed_entries : Option PlaceEnd → List Entry
printed_entries None = []
printed_entries (Some end) = end.entries.items

-- the family has for each group, at this place's id and node, the journal with the group's index
abbrev pub AreJournals : List PlaceEnd → List ℕ → ℕ → Family → Place → Type 0
AreJournals ends firsts count family place = (group : ℕ) → group < count → family (at_group place group) ≡ printed_entries (slice_get ends (slice_index firsts group))

-- the objects of a place that are printed, none where it isn't printed
abbrev pub printed_items : Option PlaceEnd → List Object
printed_items None = []
printed_items (Some end) = end.items.items

-- these are the printed objects of each group's place at this place's id and node
abbrev pub ArePrinted : List PlaceEnd → List ℕ → ℕ → (Place → List Object) → Place → Type 0
ArePrinted ends firsts count printed place = (group : ℕ) → group < count → printed (at_group place group) ≡ printed_items (slice_get ends (slice_index firsts group))

-- all that is told of the journal of a place is so
abbrev pub IsReplayedAt : List ℕ → Family → (Place → List Object) → Place → Replayed → Type 0
IsReplayedAt parents family printed place r = IsReplayed (lists_moved_at parents family place) (family place) (printed place) r

-- each group's journal is told of, the last group first
pub record AreReplayed (parents : List ℕ) (family : Family) (printed : Place → List Object) (place : Place) (told : List Replayed) : Type 0 where
  pub count : length told ≡ length parents
  pub each : (k group : ℕ) (r : Replayed) → slice_get told k ≡ Some r → group + k + 1 ≡ length parents → IsReplayedAt parents family printed (at_group place group) r
