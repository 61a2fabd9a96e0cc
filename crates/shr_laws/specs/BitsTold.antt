-- SPDX-License-Identifier: GPL-2.0-only
-- The bits of maps: which there may be, and which a worker must see.
use Rattle.std.specs.Prelude.{◌≡◌, ◌⊎◌, ℕ, ◌<◌, nat_lt, Bool, true, false, not, ◌||◌, ◌==◌, List, map, filter, flat_map, length, slice_get, Some, Contains}
use Rattle.std.specs.List.{AllByRecursion, list_any}
use Rattle.shr_base.specs.declared.places.Place.{Place}
use Rattle.shr_base.specs.declared.ends.MapEnd.{MapEnd}
use Rattle.shr_base.specs.declared.scripts.Script.{Script}
use Rattle.shr_base.specs.Walks.{Attempt, WalkRecord}
use Rattle.shr_base.specs.declared.walks.GoneThen.TheVariants.{Set}
use Rattle.shr_base.specs.declared.walks.MapSeen.{MapSeen}
use Rattle.shr_base.specs.declared.walks.Outcome.{Outcome}
use Rattle.shr_base.specs.declared.walks.Outcome.TheVariants.{Gone}
use Rattle.shr_model.specs.Bits.{is_set, ids_in}
use Rattle.shr_model.specs.Places.{is_place, bit_of}
use Rattle.shr_model.specs.Walks.{place_in, ids_seen, clearings_of}
use Rattle.shr_laws.specs.declared.report.Report.{Report}
use Rattle.shr_laws.specs.Parts.{serial_of, items_before, all_walks, EachWalk}
use Rattle.shr_laws.specs.WalksLawful.{FillsPlace, Covers}

-- a walk is of another worker, or of a command of this one that comes after this command
abbrev pub is_since : ℕ → ℕ → WalkRecord → Bool
is_since worker command w = not (w.by.worker == worker) || nat_lt command w.by.command

-- a walk of another worker, or of a later command of this one, cleared the bit of this place
abbrev pub was_cleared_since : Report → Place → ℕ → ℕ → Bool
was_cleared_since r place worker command = list_any (is_place place) (flat_map clearings_of (filter (is_since worker command) (all_walks r)))

-- the attempt cleared a bit as its id was gone, found the id there, and set the bit again
abbrev pub is_set_again : Outcome → Bool
is_set_again (Gone number Set) = true
is_set_again o = false

-- the places whose bits the walk set again so, in order
abbrev pub set_again_in : WalkRecord → List Place
set_again_in w = map (λ (a : Attempt). place_in w a.id) (filter (λ (a : Attempt). is_set_again a.outcome) w.attempts.items)

-- the list of a place had an object once
abbrev pub WasFilled : Script → Report → Place → Type 0
WasFilled s r place = (n : ℕ) × (0 < length (items_before s r place n))

-- the bit of a place has a cause: its list was filled, or a walk set it again
abbrev pub HasReason : Script → Report → Place → Type 0
HasReason s r place = WasFilled s r place ⊎ Contains (flat_map set_again_in (all_walks r)) place

-- the place whose bit a printed word has
abbrev pub bit_place : MapEnd → ℕ → Place
bit_place m id = record { id = id; node = m.node; group = m.group }

-- the bits that are told are of ids that are there, have a reason, and aren't lost
pub record AreBitsTold (s : Script) (r : Report) : Type 0 where
  -- each bit that is set at the end is of an id of the tables, and has a reason
  pub of_ids : AllByRecursion (λ (m : MapEnd). AllByRecursion (λ id. id < s.ids) (ids_in m.unit m.bits)) r.maps.items
  pub raised : AllByRecursion (λ (m : MapEnd). AllByRecursion (λ id. HasReason s r (bit_place m id)) (ids_in m.unit m.bits)) r.maps.items
  -- and so has each that a walk saw
  pub shown : EachWalk r (λ worker n w. AllByRecursion (λ id. (id < s.ids) × HasReason s r (place_in w id)) (ids_seen w))
  -- a worker's map has the bit of each place that an earlier reply of the worker filled, unless a walk of another worker, or of
  -- a command of its own after that one, cleared it
  pub kept : EachWalk r (λ worker n w. (i k : ℕ) (m : MapSeen) (place : Place) → slice_get w.maps.items i ≡ Some m → Covers w m place
      → k < w.by.command → FillsPlace s r (serial_of worker k) place → was_cleared_since r place worker k ≡ false → is_set m.bits (bit_of place.id) ≡ true)
