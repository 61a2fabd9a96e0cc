-- SPDX-License-Identifier: GPL-2.0-only
-- The bit of a place, if it must be set. No public clause cites this.
use Rattle.std.specs.Prelude.{◌≡◌, ◌≢◌, ℕ, ◌<◌, ◌%◌, true, List, [], length, slice_index}
use Rattle.shr_base.specs.declared.journals.PoolEntry.{PoolEntry}
use Rattle.shr_base.specs.declared.places.Place.{Place}
use Rattle.shr_model.specs.Families.{items_of}
use Rattle.shr_model.specs.Pool.{is_live, phase_of}
use Rattle.shr_laws.specs.declared.report.Report.{Report}
use Rattle.shr_laws.specs.BitsLawful.{is_set_at}
use Rattle.shr_laws.specs.Parts.{journals_of}

-- a place below the root that has objects at the end, and whose id is live, has its bit set
abbrev pub IsSetIfLive : List ℕ → Report → Place → Type 0
IsSetIfLive parents r place = place.group ≢ 0 → items_of parents (journals_of r) place ≢ [] → is_live place.id r.pool.items ≡ true → is_set_at r place ≡ true

-- of each id that a number of 16 bits can name it is told in which phase it is, modulo 3
pub record ArePhases (pool : List PoolEntry) (phases : List ℕ) : Type 0 where
  pub many : length phases ≡ 65536
  pub each : (id : ℕ) → id < 65536 → slice_index phases id ≡ phase_of id pool % 3
