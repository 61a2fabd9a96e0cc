-- SPDX-License-Identifier: GPL-2.0-only
-- The Scan entries of each isolation, gathered from the journals. No public clause cites this.
use Rattle.std.specs.Prelude.{◌≡◌, ℕ, ◌-◌, ◌≤◌, ◌==◌, ◌&&◌, cond, is_some, List, [], ◌∷◌, ◌++◌, length, map, take, slice_get, Option, Some, None, option_map, option_to_list, Vec, ⊤}
use Rattle.std.specs.Option.{IsSomeAnd}
use Rattle.std.specs.declared.alloc.Global.{Global}
use Rattle.shr_base.specs.declared.ends.PlaceEnd.{PlaceEnd}
use Rattle.shr_base.specs.declared.ends.WorkerPart.{WorkerPart}
use Rattle.shr_base.specs.declared.journals.Entry.{Entry}
use Rattle.shr_base.specs.declared.journals.Entry.TheVariants.{Scan}
use Rattle.shr_base.specs.declared.places.Place.{Place}
use Rattle.shr_base.specs.declared.walks.Isolation.{Isolation}
use Rattle.shr_model.specs.Places.{is_place}
use Rattle.shr_model.specs.Isolations.{ScanSeen, first_isolation, isolation_walk}
use Rattle.shr_laws.specs.declared.report.Report.{Report}
use Rattle.shr_laws.specs.Isolated.{scans_seen}
use Rattle.shr_laws.specs.Parts.{isolation_at, journal_of, journals_of}
use Rattle.shr_audit_formed.specs.Each.{EachItem}
use Rattle.shr_audit_case.specs.Places.{IsFirst, end_printed}
use Rattle.shr_audit_isolations.specs.declared.gathered.Gathered.{Gathered}
use Rattle.shr_audit_isolations.specs.declared.gathered.IsolationScan.{IsolationScan}

-- a scan as the law sees it
abbrev pub seen_of : IsolationScan → ScanSeen
seen_of x = record { asked = x.asked; policy = x.policy; visits = x.visits; freed = x.freed; stopped = x.stopped }

-- an isolation and scans of it
pub record IsolationTold : Type 0 where
  pub isolation : Isolation
  pub scans : List ScanSeen

-- the same of what is gathered
abbrev pub told_of : Gathered → IsolationTold
told_of g = record { isolation = g.isolation; scans = map seen_of g.scans.items }

-- an isolation of which nothing is gathered yet
abbrev pub begun : Isolation → IsolationTold
begun i = record { isolation = i; scans = [] }

-- those of all workers
abbrev pub IsGatheringBegun : List WorkerPart → List (Vec Gathered Global) → Type 0
IsGatheringBegun parts table = map (λ (row : Vec Gathered Global). map told_of row.items) table ≡ map (λ (part : WorkerPart). map begun part.isolations.items) parts

-- one scan more
abbrev pub pushed : ScanSeen → IsolationTold → IsolationTold
pushed x t = record t { scans = t.scans ++ x ∷ [] }

-- the isolation with this number has one scan more, the others are as they were
abbrev pub RowGains : ℕ → ScanSeen → List Gathered → List Gathered → Type 0
RowGains number x old new = (k : ℕ) → option_map told_of (slice_get new k) ≡ option_map (λ t. cond (k == number) (pushed x t) t) (option_map told_of (slice_get old k))

-- the isolations of a worker, none past the last one
abbrev pub gathered_row : Option (Vec Gathered Global) → List Gathered
gathered_row None = []
gathered_row (Some row) = row.items

-- the isolation with this number of a worker, with what is gathered of it
abbrev pub told_at : List (Vec Gathered Global) → ℕ → ℕ → Option IsolationTold
told_at table worker k = option_map told_of (slice_get (gathered_row (slice_get table worker)) k)

-- that of this worker with this number has one scan more, the others are as they were
pub record TableGains (worker number : ℕ) (x : ScanSeen) (old new : List (Vec Gathered Global)) : Type 0 where
  pub count : length new ≡ length old
  pub each : (w k : ℕ) → told_at new w k ≡ option_map (λ t. cond ((w == worker) && (k == number)) (pushed x t) t) (told_at old w k)

-- a Scan entry at a place whose walk is an isolation's is of one of these, at that place
abbrev pub IsOfTold : List (Vec Gathered Global) → Place → Entry → Type 0
IsOfTold table place (Scan worker n asked policy visits freed stopped) = first_isolation ≤ n → IsSomeAnd (told_at table worker (n - first_isolation)) (λ t. t.isolation.place ≡ place)
IsOfTold table place e = ⊤

-- with the scans of its walk in these entries
abbrev pub with_scans : ℕ → ℕ → List Entry → IsolationTold → IsolationTold
with_scans worker k entries t = record t { scans = t.scans ++ scans_seen worker (isolation_walk k) entries }

-- each isolation has in addition the scans of its walk in the entries that its place has more
pub record GainsScans (more : Place → List Entry) (old new : List (Vec Gathered Global)) : Type 0 where
  pub count : length new ≡ length old
  pub each : (w k : ℕ) → told_at new w k ≡ option_map (λ t. with_scans w k (more t.isolation.place) t) (told_at old w k)

-- this place has these entries more, the others none
abbrev pub at_place : Place → List Entry → Place → List Entry
at_place place entries p = cond (is_place p place) entries []

-- each Scan entry of a list is of one of these, if the list is the first one of its place
abbrev pub IsOfTheirs : List (Vec Gathered Global) → List PlaceEnd → ℕ → Type 0
IsOfTheirs table ends k = (end : PlaceEnd) → slice_get ends k ≡ Some end → IsFirst ends k end.place → EachItem (IsOfTold table end.place) end.entries.items

-- the journal of a place in the first so many lists
abbrev pub journals_to : List PlaceEnd → ℕ → Place → List Entry
journals_to ends n place = journal_of (end_printed (take n ends) place)

-- the entries that the list with this number adds for a place: its own, if it is the first one there
abbrev pub new_at : List PlaceEnd → ℕ → Place → List Entry
new_at ends k place = cond (is_some (end_printed (take k ends) place)) [] (journal_of (end_printed (option_to_list (slice_get ends k)) place))

-- an isolation with the scans of its walk in the journal of its place
abbrev pub gathered_of : Report → ℕ → ℕ → Isolation → IsolationTold
gathered_of r worker k i = record { isolation = i; scans = scans_seen worker (isolation_walk k) (journals_of r i.place) }

-- each isolation of a report, so
pub record AreGathered (r : Report) (table : List (Vec Gathered Global)) : Type 0 where
  pub count : length table ≡ length r.workers.items
  pub each : (w k : ℕ) → told_at table w k ≡ option_map (gathered_of r w k) (isolation_at r w k)
