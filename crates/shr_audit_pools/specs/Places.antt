-- SPDX-License-Identifier: GPL-2.0-only
-- The journals of the pools by their places. No public clause cites this.
use Rattle.std.specs.Prelude.{ℕ, ◌+◌, ◌*◌, ◌<◌, List, find, Option}
use Rattle.shr_base.specs.declared.ends.UnitsEnd.{UnitsEnd}
use Rattle.shr_base.specs.declared.places.Place.{Place}
use Rattle.shr_model.specs.Places.{is_place}
use Rattle.shr_model.specs.Units.{IsPlainJournal}
use Rattle.shr_audit_formed.specs.Each.{Adjacent, EachItem}
use Rattle.shr_laws.specs.declared.report.Report.{Report}
use Rattle.shr_laws.specs.Numbers.{AreUnitsNumbered}
use Rattle.shr_laws.specs.UnitParts.{units_place_at}
use Rattle.shr_laws.specs.WellFormed.{units_place}
use Rattle.shr_audit_pools.specs.declared.places.PoolPlace.{PoolPlace}

-- the place that the two numbers name
abbrev pub named_place : PoolPlace → Place
named_place p = units_place_at p.pool p.node

-- a pool on a node by one number
abbrev pub pool_key : ℕ → ℕ → ℕ
pool_key pool node = 256 * pool + node

-- that of a journal
abbrev pub units_key : UnitsEnd → ℕ
units_key u = pool_key u.pool u.node

-- the journal that is printed for a place
abbrev pub journal_printed_at : List UnitsEnd → Place → Option UnitsEnd
journal_printed_at ends place = find (λ (u : UnitsEnd). is_place (units_place u) place) ends

-- journals stand by pool and node, each once
pub record AreShelved (ends : List UnitsEnd) : Type 0 where
  pub rising : Adjacent (λ u v. units_key u < units_key v) ends
  pub narrow : EachItem (λ u. u.node < 256) ends

-- so do those of a report; each entry has its outcome, and numbers of its types
pub record AreKept (r : Report) : Type 0 where
  pub shelved : AreShelved r.units.items
  pub journals : EachItem (λ u. IsPlainJournal u.entries.items) r.units.items
  pub numbered : EachItem (λ u. AreUnitsNumbered u) r.units.items
