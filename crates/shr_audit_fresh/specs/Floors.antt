-- SPDX-License-Identifier: GPL-2.0-only
-- What was known, by the least number that is above all of it.
use Rattle.std.specs.Prelude.{ℕ, ◌<◌, ◌≤◌, ◌↔◌, List, length, filter, flat_map, get_or}
use Rattle.std.specs.List.{AllByRecursion}
use Rattle.shr_base.specs.Walks.{WalkRecord}
use Rattle.shr_model.specs.Commands.{is_serial}
use Rattle.shr_laws.specs.Freshness.{AreBelow, walk_cited}
use Rattle.shr_laws.specs.Parts.{serial_of}

-- the numbers that are above each of these are those from this one on
abbrev pub IsFloor : List ℕ → ℕ → Type 0
IsFloor ns floor = (m : ℕ) → (floor ≤ m) ↔ AllByRecursion (λ n. n < m) ns

-- the same with these more
abbrev pub FloorWith : ℕ → List ℕ → ℕ → Type 0
FloorWith old ns new = (m : ℕ) → (new ≤ m) ↔ ((old ≤ m) × AllByRecursion (λ n. n < m) ns)

-- the higher of two floors
abbrev pub IsHigher : ℕ → ℕ → ℕ → Type 0
IsHigher a b higher = (m : ℕ) → (higher ≤ m) ↔ ((a ≤ m) × (b ≤ m))

-- each of these is at least this number
abbrev pub Reaches : ℕ → List ℕ → Type 0
Reaches floor ms = AllByRecursion (λ m. floor ≤ m) ms

-- the same of what the commands before one knew
abbrev pub IsFloorBefore : (ℕ → List ℕ) → ℕ → ℕ → Type 0
IsFloorBefore known command floor = (m : ℕ) → (floor ≤ m) ↔ ((k : ℕ) → k < command → AllByRecursion (λ n. n < m) (known k))

-- what each command knew is below what each later one of these sees
abbrev pub AreKnownBelow : (ℕ → List ℕ) → (ℕ → List ℕ) → ℕ → Type 0
AreKnownBelow known seen count = (k later : ℕ) → k < later → later < count → AreBelow (known k) (seen later)

-- what the walks of a command among these cite
abbrev pub walks_cite : ℕ → List WalkRecord → ℕ → List ℕ
walks_cite worker walks k = flat_map (λ (w : WalkRecord). walk_cited w.answer) (filter (λ (w : WalkRecord). is_serial (serial_of worker k) w.by) walks)

-- the floor of each of so many commands
abbrev pub AreFloors : ℕ → List WalkRecord → List ℕ → Type 0
AreFloors worker walks floors = (k : ℕ) → k < length floors → IsFloor (walks_cite worker walks k) (get_or floors k 0)
