-- SPDX-License-Identifier: GPL-2.0-only
-- What is so of each item of a list, and of each two that stand next to one another.
use Rattle.std.specs.Prelude.{◌≡◌, ◌≢◌, ℕ, ◌+◌, ◌<◌, ◌≤◌, List, [], length, slice_get, Some}
use Rattle.std.specs.List.{AllByRecursion}
use Rattle.shr_model.specs.Places.{unit_of}
use Rattle.shr_base.specs.Walks.{Attempt, WalkRecord}
use Rattle.shr_base.specs.declared.ends.PlaceEnd.{PlaceEnd}
use Rattle.shr_laws.specs.WellFormed.{HasWords, IsBitWord, IsNumbered, IsSpelled}
use Rattle.shr_base.specs.declared.places.Serial.{Serial}
use Rattle.shr_base.specs.declared.walks.MapSeen.{MapSeen}

-- it is so of each item
abbrev pub EachItem : {X : Type 0} → (X → Type 0) → List X → Type 0
EachItem {X} P xs = (n : ℕ) (x : X) → slice_get xs n ≡ Some x → P x

-- it is so of each item and the next
abbrev pub Adjacent : {X : Type 0} → (X → X → Type 0) → List X → Type 0
Adjacent {X} R xs = (n : ℕ) (x y : X) → slice_get xs n ≡ Some x → slice_get xs (n + 1) ≡ Some y → R x y

-- a command is one of this worker's, of which so many have answers
abbrev pub IsWorkerCommand : ℕ → ℕ → Serial → Type 0
IsWorkerCommand worker answers by = (by.worker ≡ worker) × (by.command < answers)

-- one of these is of this unit
abbrev pub IsUnitLoaded : List MapSeen → ℕ → Type 0
IsUnitLoaded maps unit = (n : ℕ) × ((m : MapSeen) × ((slice_get maps n ≡ Some m) × (m.unit ≡ unit)))

-- the maps of a walk of a group: none of one of the root, words of bits, of rising units
abbrev pub AreMapsFormed : ℕ → List MapSeen → Type 0
AreMapsFormed group maps = (group ≡ 0 → maps ≡ []) × (EachItem (λ m. IsBitWord m.bits) maps × Adjacent (λ m n. m.unit < n.unit) maps)

-- the attempts of a walk that isn't one of the root: in the order of their units, each at an id of a loaded one
abbrev pub AreAttemptsFormed : List MapSeen → List Attempt → Type 0
AreAttemptsFormed maps attempts = Adjacent (λ a b. unit_of a.id ≤ unit_of b.id) attempts × EachItem (λ a. IsUnitLoaded maps (unit_of a.id)) attempts

-- a walk is as one that is printed
abbrev pub IsWalkFormed : WalkRecord → Type 0
IsWalkFormed w = AreMapsFormed w.group w.maps.items × (w.group ≢ 0 → AreAttemptsFormed w.maps.items w.attempts.items)

-- a list is as one that is printed
abbrev pub IsListFormed : PlaceEnd → Type 0
IsListFormed end = IsNumbered end.place × ((0 < length end.entries.items) × (EachItem HasWords end.entries.items × AllByRecursion IsSpelled end.items.items))
