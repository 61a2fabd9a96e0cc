-- SPDX-License-Identifier: GPL-2.0-only
-- No answer cites a place that is printed twice.
use Rattle.std.specs.Prelude.{◌≡◌, ℕ, List, slice_get, Some}
use Rattle.shr_base.specs.declared.ends.PlaceEnd.{PlaceEnd}
use Rattle.shr_base.specs.declared.places.At.{At}
use Rattle.shr_base.specs.declared.places.Place.{Place}
use Rattle.shr_audit_case.specs.Places.{IsFirst}
use Rattle.shr_laws.specs.declared.report.Report.{Report}
use Rattle.shr_laws.specs.Parts.{cited_at, serial_of}

-- each list that is printed for a place is the first one, so there is one at most
abbrev pub IsPrintedOnce : List PlaceEnd → Place → Type 0
IsPrintedOnce ends place = (k : ℕ) (end : PlaceEnd) → slice_get ends k ≡ Some end → end.place ≡ place → IsFirst ends k place

-- the answer with this number cites no place that is printed twice
abbrev pub IsCitedOnceAt : Report → ℕ → ℕ → Type 0
IsCitedOnceAt r worker k = (c : At) → cited_at r (serial_of worker k) ≡ Some c → IsPrintedOnce r.places.items c.place

-- no answer does
abbrev pub AreCitedOnce : Report → Type 0
AreCitedOnce r = (worker k : ℕ) → IsCitedOnceAt r worker k
