-- SPDX-License-Identifier: GPL-2.0-only
-- The last version that was read at each place. No public clause cites this.
use Rattle.std.specs.Prelude.{◌≡◌, ℕ, ◌+◌, ◌*◌, ◌≤◌, ◌↔◌, ◌&&◌, nat_eq, nat_lt, Bool, true, cond, List, [], ◌∷◌, ◌++◌, flat_map, Option, Some, None, ⊤}
use Rattle.std.specs.declared.hash.FoldHasher.{FoldHasher}
use Rattle.std.specs.declared.hash.BuildHasherDefault.{BuildHasherDefault}
use Rattle.std.specs.HashMap.{get, HashMap}
use Rattle.shr_base.specs.declared.ends.WorkerPart.{WorkerPart}
use Rattle.shr_base.specs.declared.places.Place.{Place}
use Rattle.shr_model.specs.Places.{is_place}
use Rattle.shr_model.specs.Walks.{versions_at}
use Rattle.shr_laws.specs.WellFormed.{AreNotFalling}

-- a place by one number
abbrev pub place_key : Place → ℕ
place_key place = 4294967296 * place.node + 65536 * place.group + place.id

-- its group and its id have 16 bits
abbrev pub fits : Place → Bool
fits place = nat_lt place.group 65536 && nat_lt place.id 65536

-- a table of versions by the numbers of places
abbrev pub Versions : Type 0
Versions = HashMap ℕ ℕ (BuildHasherDefault FoldHasher)

-- the version that was read, 0 where none was
abbrev pub read_as : Option ℕ → ℕ
read_as None = 0
read_as (Some version) = version

-- the last version that was read at a place
abbrev pub last_at : Versions → Place → ℕ
last_at t place = cond (fits place) (read_as (get nat_eq t (place_key place))) 0

-- nothing was read
abbrev pub IsBlank : Versions → Type 0
IsBlank t = (key : ℕ) → get nat_eq t key ≡ None

-- each of these is at least the one before it, and the first at least this number
abbrev pub NotFallingFrom : ℕ → List ℕ → Type 0
NotFallingFrom low [] = ⊤
NotFallingFrom low (v ∷ vs) = (low ≤ v) × NotFallingFrom v vs

-- so it is at each place with what is still to come there, from the last version that was read
abbrev pub NotFallingOn : Versions → (Place → List ℕ) → Type 0
NotFallingOn t rest = (place : Place) → NotFallingFrom (last_at t place) (rest place)

-- versions that are read at one place: at another there are none
abbrev pub if_here : Place → List ℕ → Place → List ℕ
if_here here versions place = cond (is_place place here) versions []

-- the versions that were read at each place meanwhile didn't fall if and only if the answer is true,
-- and then the table has them: with these before it what is to come is as it is from the new table on
abbrev pub Notes : Versions → Versions → Bool → (Place → List ℕ) → Type 0
Notes old new b added = (rest : Place → List ℕ) → NotFallingOn old (λ place. added place ++ rest place) ↔ ((b ≡ true) × NotFallingOn new rest)

-- the versions of a worker's counts at each place never fall
abbrev pub IsPartRising : WorkerPart → Type 0
IsPartRising part = (place : Place) → AreNotFalling (flat_map (versions_at place) part.walks.items)
