-- SPDX-License-Identifier: GPL-2.0-only
-- How many objects were moved from each group.
use Rattle.std.specs.Prelude.{◌≡◌, ℕ, ◌-◌, ◌^◌, ◌<◌, min, List, length, get_or}
use Rattle.shr_laws.specs.declared.report.Report.{Report}
use Rattle.shr_laws.specs.Causes.{objects_moved_from}

-- the table has the sum of each group, or 2^128 - 1 where that is less
abbrev pub AreCappedSums : (ℕ → ℕ) → List ℕ → Type 0
AreCappedSums sums table = (group : ℕ) → group < length table → get_or table group 0 ≡ min (sums group) (2 ^ 128 - 1)

-- the sums are those of the objects that were moved from each group
pub record AreMoved (r : Report) (table : List ℕ) : Type 0 where
  pub count : length table ≡ 65536
  pub each : AreCappedSums (objects_moved_from r) table
