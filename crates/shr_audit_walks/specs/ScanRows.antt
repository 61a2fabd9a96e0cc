-- SPDX-License-Identifier: GPL-2.0-only
-- The Scan entries of lists, with the places where they stand.
use Rattle.std.specs.Prelude.{◌≡◌, ℕ, ◌<◌, ◌^◌, ◌==◌, List, [], ◌∷◌, ◌++◌, filter, filter_map, map, slice_get, Option, Some, None}
use Rattle.std.specs.List.{enumerate_from}
use Rattle.shr_base.specs.declared.ends.PlaceEnd.{PlaceEnd}
use Rattle.shr_base.specs.declared.journals.Entry.{Entry}
use Rattle.shr_base.specs.declared.journals.Entry.TheVariants.{Scan}
use Rattle.shr_base.specs.declared.places.Place.{Place}
use Rattle.shr_model.specs.Scans.{scans_by}
use Rattle.shr_laws.specs.WellFormed.{IsNumbered}
use Rattle.shr_audit_case.specs.Lists.{journals_in}
use Rattle.shr_audit_case.specs.Places.{IsFirst}
use Rattle.shr_audit_passes.specs.declared.scans.ScanSeen.{ScanSeen}
use Rattle.shr_audit_passes.specs.Scans.{made_of_scan}
use Rattle.shr_audit_walks.specs.Keys.{key_of, row_key}

-- the entry of a place with this number, where it is a Scan
abbrev pub scan_row : Place → ℕ → Entry → Option ScanSeen
scan_row place n (Scan worker walk asked policy visits freed stopped) =
    Some (record { worker = worker; walk = walk; place = place; number = n; asked = asked; policy = policy; freed = freed })
scan_row place n e = None

-- the Scan entries of a place's journal
abbrev pub rows_of : Place → List Entry → List ScanSeen
rows_of place entries = filter_map (λ (e : ℕ × Entry). scan_row place e.0 e.1) (enumerate_from 0 entries)

-- one row more, where there is one
abbrev pub rows_with : List ScanSeen → Option ScanSeen → List ScanSeen
rows_with rows None = rows
rows_with rows (Some x) = rows ++ x ∷ []

-- the rows with a key, in order
abbrev pub with_key : ℕ → List ScanSeen → List ScanSeen
with_key key rows = filter (λ (x : ScanSeen). row_key x == key) rows

-- the rows of a list are added, if it is the first one of its place
pub record AddsRowsOf (ends : List PlaceEnd) (k : ℕ) (old new : List ScanSeen) : Type 0 where
  pub first : (end : PlaceEnd) → slice_get ends k ≡ Some end → IsFirst ends k end.place → new ≡ old ++ rows_of end.place end.entries.items
  pub later : (end : PlaceEnd) → slice_get ends k ≡ Some end → (IsFirst ends k end.place → ⊥) → new ≡ old

-- at each place the rows of a walk of a worker are the Scan entries that it made there, in the order of the journal
abbrev pub AreRowsOf : List PlaceEnd → List ScanSeen → Type 0
AreRowsOf ends rows = (worker walk : ℕ) (place : Place) → worker < 2 ^ 16 → IsNumbered place
    → map made_of_scan (with_key (key_of worker walk place) rows) ≡ scans_by worker walk (journals_in ends place)
