-- SPDX-License-Identifier: GPL-2.0-only
-- The journals of all lists of a report, replayed.
use Rattle.std.specs.Prelude.{◌≡◌, ℕ, List, [], length, slice_get, Option, Some, None}
use Rattle.shr_base.specs.declared.objects.Object.{Object}
use Rattle.shr_base.specs.declared.places.Place.{Place}
use Rattle.shr_base.specs.declared.ends.PlaceEnd.{PlaceEnd}
use Rattle.shr_base.specs.declared.scripts.Script.{Script}
use Rattle.shr_model.specs.Families.{Family}
use Rattle.shr_laws.specs.declared.report.Report.{Report}
use Rattle.shr_laws.specs.Parts.{journal_of, parents_of}
use Rattle.shr_audit_case.specs.declared.journal.Replayed.{Replayed}
use Rattle.shr_audit_case.specs.Groups.{IsReplayedAt, printed_items}
use Rattle.shr_audit_case.specs.declared.case.Case.{Case}
use Rattle.shr_audit_case.specs.Places.{AreInOrder, IsFirst, end_printed}

-- the journals of these lists, which are those of the report that has them
abbrev pub journals_in : List PlaceEnd → Family
journals_in ends place = journal_of (end_printed ends place)

-- the objects of these lists that are printed
abbrev pub items_printed_in : List PlaceEnd → Place → List Object
items_printed_in ends place = printed_items (end_printed ends place)

-- the replay of the list with this index, if it is the first one of its place, tells what is so of its journal
abbrev pub IsReplayOfList : List ℕ → List PlaceEnd → ℕ → Replayed → Type 0
IsReplayOfList parents ends k r = (end : PlaceEnd) → slice_get ends k ≡ Some end → IsFirst ends k end.place → IsReplayedAt parents (journals_in ends) (items_printed_in ends) end.place r

-- there is one for each list
pub record AreReplays (parents : List ℕ) (ends : List PlaceEnd) (told : List Replayed) : Type 0 where
  pub count : length told ≡ length ends
  pub each : (k : ℕ) (r : Replayed) → slice_get told k ≡ Some r → IsReplayOfList parents ends k r

-- the lists of the report stand in order, and were replayed
pub record IsReplayOf (r : Report) (c : Case) : Type 0 where
  pub order : AreInOrder r.places.items
  pub replays : AreReplays c.parents.items r.places.items c.replays.items

-- of this script and this report
pub record IsCaseOf (s : Script) (r : Report) (c : Case) : Type 0 where
  pub parents : c.parents.items ≡ parents_of s
  pub replayed : IsReplayOf r c

-- what is told of a place, if it is printed, is so
abbrev pub TellsReplayed : List ℕ → List PlaceEnd → Place → Option Replayed → Type 0
TellsReplayed parents ends place None = end_printed ends place ≡ None
TellsReplayed parents ends place (Some r) = IsReplayedAt parents (journals_in ends) (items_printed_in ends) place r
