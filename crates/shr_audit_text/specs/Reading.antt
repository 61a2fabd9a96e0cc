-- SPDX-License-Identifier: GPL-2.0-only
-- The lines of a text, and the report that they say.
use Rattle.std.specs.Prelude.{◌≡◌, ℕ, List, [], ◌∷◌, Some}
use Rattle.std.specs.List.{AllByRecursion}
use Rattle.shr_base.specs.Kept.{Kept}
use Rattle.shr_base.specs.Walks.{WalkRecord}
use Rattle.shr_base.specs.declared.walks.PlainWalk.{PlainWalk}
use Rattle.shr_base.specs.declared.ends.UnitsEnd.{UnitsEnd}
use Rattle.shr_base.specs.declared.ends.PlaceEnd.{PlaceEnd}
use Rattle.shr_base.specs.declared.ends.WorkerPart.{WorkerPart}
use Rattle.shr_laws.specs.declared.report.Report.{Report}
use Rattle.shr_laws.specs.Text.{text}
use Rattle.shr_laws.specs.WellFormed.{IsWellFormed}
use Rattle.shr_laws.specs.Numbers.{HasNumbers}
use Rattle.shr_audit_text.specs.declared.said.Said.{Said}
use Rattle.shr_audit_text.specs.Said.{read_line, IsSaidNumbered}
use Rattle.shr_audit_text.specs.Draft.{kept, with_said}

-- a report of which nothing was read
abbrev pub nothing_read : Report
nothing_read = record {
  version = 0;
  nodes = 0;
  ids = 0;
  groups = kept [];
  caches = kept [];
  pools = kept [];
  pool = kept [];
  tree = kept [];
  workers = kept [];
  places = kept [];
  units = kept [];
  maps = kept [];
  deferred = kept [];
  pool_deferred = kept [];
  uses = kept [];
  lookups = kept [];
  added = 0;
  freed = 0;
  listed = 0;
}

-- a line says something, with numbers that have the ranges of their types
pub record Says (version : ℕ) (line : List ℕ) (said : Said) : Type 0 where
  pub is : read_line version line ≡ Some said
  pub numbered : IsSaidNumbered said

-- the lines make of what was read before this report, and the last of them is empty: each ends with a line feed
unfoldable pub Reads : List (List ℕ) → Report → Report → Type 0
Reads [] before r = ⊥
Reads (line ∷ []) before r = (line ≡ []) × (before ≡ r)
Reads (line ∷ next ∷ lines) before r = (said : Said) × (Says before.version line said × Reads (next ∷ lines) (with_said said before) r)

-- a list has no room to spare
abbrev pub IsTight : {X : Type 0} → Kept X → Type 0
IsTight xs = xs.spare ≡ 0

-- a walk's lists have none
pub record IsTightWalk (w : WalkRecord) : Type 0 where
  pub maps : IsTight w.maps
  pub attempts : IsTight w.attempts

-- a walk of the pools has none
pub record IsTightPlain (w : PlainWalk) : Type 0 where
  pub tries : IsTight w.tries

-- those of a part have none
pub record IsTightPart (p : WorkerPart) : Type 0 where
  pub answers : IsTight p.answers
  pub walks : IsTight p.walks
  pub each : AllByRecursion IsTightWalk p.walks.items
  pub carries : IsTight p.carries
  pub plain : IsTight p.plain
  pub each_plain : AllByRecursion IsTightPlain p.plain.items
  pub isolations : IsTight p.isolations

-- those of a list have none
pub record IsTightList (end : PlaceEnd) : Type 0 where
  pub entries : IsTight end.entries
  pub items : IsTight end.items

-- a pool's journal has none
pub record AreTightUnits (u : UnitsEnd) : Type 0 where
  pub entries : IsTight u.entries

-- No list of a report has room to spare, at any depth. So the text of a report is that of one such report alone.
pub record IsTightReport (r : Report) : Type 0 where
  pub groups : IsTight r.groups
  pub caches : IsTight r.caches
  pub pools : IsTight r.pools
  pub pool : IsTight r.pool
  pub tree : IsTight r.tree
  pub workers : IsTight r.workers
  pub parts : AllByRecursion IsTightPart r.workers.items
  pub places : IsTight r.places
  pub lists : AllByRecursion IsTightList r.places.items
  pub units : IsTight r.units
  pub journals : AllByRecursion AreTightUnits r.units.items
  pub maps : IsTight r.maps
  pub deferred : IsTight r.deferred
  pub pool_deferred : IsTight r.pool_deferred
  pub uses : IsTight r.uses
  pub lookups : IsTight r.lookups

-- The report that has these bytes as its text: well formed, with numbers of its types, and with lists that have no room to spare.
pub record IsReportOf (bytes : List ℕ) (r : Report) : Type 0 where
  pub well_formed : IsWellFormed r
  pub numbers : HasNumbers r
  pub tight : IsTightReport r
  pub text_is : text r ≡ bytes
