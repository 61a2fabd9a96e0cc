-- SPDX-License-Identifier: GPL-2.0-only
-- The fields of the law on pools that are of their journals alone.
use Rattle.std.specs.Prelude.{◌≡◌, ◌≢◌, ℕ, ◌<◌, List, length, slice_get, Some}
use Rattle.std.specs.List.{AllByRecursion}
use Rattle.shr_base.specs.declared.ends.UnitsEnd.{UnitsEnd}
use Rattle.shr_base.specs.declared.journals.PlainEntry.{PlainEntry}
use Rattle.shr_base.specs.declared.scripts.Script.{Script}
use Rattle.shr_model.specs.Units.{IsPlainJournal, free_of}
use Rattle.shr_audit_formed.specs.Each.{Adjacent}
use Rattle.shr_laws.specs.declared.report.Report.{Report}
use Rattle.shr_laws.specs.Pools.{AreUnitsRight}
use Rattle.shr_laws.specs.UnitParts.{pool_place, units_place_at}
use Rattle.shr_laws.specs.WellFormed.{units_place}

-- each entry has the outcome that those before it leave it, and so many units are free behind the last
pub record Leaves (entries : List PlainEntry) (free : ℕ) : Type 0 where
  pub journal : IsPlainJournal entries
  pub left : free ≡ free_of entries

-- there is a pool with this number, and its units on this node are kept there
pub record IsPoolHome (s : Script) (pool node : ℕ) : Type 0 where
  pub declared : pool < length s.pools.items
  pub within : node < s.nodes
  pub home : pool_place s pool node ≡ units_place_at pool node

-- each two journals that stand next to one another are of two places
abbrev pub AreApart : List UnitsEnd → Type 0
AreApart ends = Adjacent (λ u v. units_place u ≢ units_place v) ends

-- the fields `units` and `once` of the law
pub record AreJournalsRight (s : Script) (r : Report) : Type 0 where
  pub units : AllByRecursion (AreUnitsRight s) r.units.items
  pub once : (i j : ℕ) (u v : UnitsEnd) → slice_get r.units.items i ≡ Some u → slice_get r.units.items j ≡ Some v → units_place u ≡ units_place v → i ≡ j
