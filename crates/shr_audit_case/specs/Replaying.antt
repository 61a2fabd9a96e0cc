-- SPDX-License-Identifier: GPL-2.0-only
-- A replay of the lists under way. No public clause cites this.
use Rattle.std.specs.Prelude.{◌≡◌, ◌≢◌, ℕ, ◌-◌, ◌<◌, Bool, true, false, ◌&&◌, ◌==◌, List, length, slice_get, slice_index, Some}
use Rattle.shr_base.specs.declared.places.Place.{Place}
use Rattle.shr_base.specs.declared.ends.PlaceEnd.{PlaceEnd}
use Rattle.shr_model.specs.Places.{at_group}
use Rattle.shr_audit_case.specs.declared.journal.Replayed.{Replayed}
use Rattle.shr_audit_case.specs.Groups.{IsReplayedAt}
use Rattle.shr_audit_case.specs.Places.{IsFirst, end_printed}
use Rattle.shr_audit_case.specs.Lists.{items_printed_in, journals_in}

-- each group's list at the id and node of a place has this index
pub record AreFirsts (ends : List PlaceEnd) (place : Place) (count : ℕ) (firsts : List ℕ) : Type 0 where
  pub many : length firsts ≡ count
  pub each : (group : ℕ) → group < count → slice_get ends (slice_index firsts group) ≡ end_printed ends (at_group place group)

-- the places are of one id and node
abbrev pub on_node : Place → Place → Bool
on_node p q = (p.id == q.id) && (p.node == q.node)

-- whether the list before one is of another id or node, or there is none
abbrev pub IsNewAt : List PlaceEnd → ℕ → Bool → Type 0
IsNewAt ends k true = Unit {0}
IsNewAt ends k false = (0 < k) × ((x y : PlaceEnd) → slice_get ends (k - 1) ≡ Some x → slice_get ends k ≡ Some y → on_node x.place y.place ≡ true)

-- of replays of all groups, the last group first, those of other groups are as they were
pub record IsTakenOut (count group : ℕ) (old new : List Replayed) : Type 0 where
  pub many : length new ≡ length old
  pub others : (other : ℕ) → other < count → other ≢ group → slice_get new (count - 1 - other) ≡ slice_get old (count - 1 - other)

-- of replays of all groups, those of the groups behind that of a place are of its id and node
abbrev pub AreReplayedBehind : List ℕ → List PlaceEnd → Place → List Replayed → Type 0
AreReplayedBehind parents ends place node = (group : ℕ) (r : Replayed) → place.group < group → group < length parents → slice_get node (length parents - 1 - group) ≡ Some r
    → IsReplayedAt parents (journals_in ends) (items_printed_in ends) (at_group place group) r

-- before a list these replays are there: those of the groups behind that of the list before
pub record AreReplaysBefore (parents : List ℕ) (ends : List PlaceEnd) (k : ℕ) (node : List Replayed) : Type 0 where
  pub many : 0 < k → length node ≡ length parents
  pub behind : (x : PlaceEnd) → 0 < k → slice_get ends (k - 1) ≡ Some x → AreReplayedBehind parents ends x.place node

-- those of the list's own group and of the groups behind it
pub record AreReplaysAt (parents : List ℕ) (ends : List PlaceEnd) (k : ℕ) (node : List Replayed) : Type 0 where
  pub many : length node ≡ length parents
  pub own : (end : PlaceEnd) (r : Replayed) → slice_get ends k ≡ Some end → IsFirst ends k end.place → end.place.group < length parents → slice_get node (length parents - 1 - end.place.group) ≡ Some r
      → IsReplayedAt parents (journals_in ends) (items_printed_in ends) end.place r
  pub behind : (end : PlaceEnd) → slice_get ends k ≡ Some end → AreReplayedBehind parents ends end.place node
