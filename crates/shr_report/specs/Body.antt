-- SPDX-License-Identifier: GPL-2.0-only
-- The body of a report's text: all from the workers' parts to the operations.
use Rattle.std.specs.Prelude.{List, ◌++◌, ℕ, flat_map}
use Rattle.std.specs.List.{AllByRecursion}
use Rattle.shr_laws.specs.declared.report.Report.{Report}
use Rattle.shr_laws.specs.Lines.{numbered}
use Rattle.shr_laws.specs.PartNumbers.{ArePartsWell}
use Rattle.shr_laws.specs.Numbers.{AreUnitsNumbered, IsListNumbered, IsMapNumbered, IsPartNumbered, IsUseNumbered}
use Rattle.shr_laws.specs.Text.{bit_line, deferred_line, place_lines, pool_deferred_line, units_lines, use_line, worker_lines}

-- what stands between the lists and the operations: the pools, the bit words and the deferred words
abbrev pub between_lines : Report → List ℕ
between_lines r = flat_map units_lines r.units.items ++ flat_map (bit_line r.version) r.maps.items ++ flat_map deferred_line r.deferred.items ++ flat_map pool_deferred_line r.pool_deferred.items

-- the parts of the workers, the lists, what stands between, and the operations
abbrev pub body_lines : Report → List ℕ
body_lines r = numbered worker_lines 0 r.workers.items ++ flat_map place_lines r.places.items ++ between_lines r ++ flat_map use_line r.uses.items

-- what stands between the lists and the operations has its numbers
pub record IsBetweenNumbered (r : Report) : Type 0 where
  pub units : AllByRecursion AreUnitsNumbered r.units.items
  pub maps : AllByRecursion IsMapNumbered r.maps.items

-- So has the body. What is of a command that has no answer isn't printed, so that the workers' parts must be well formed for it.
pub record IsBodyNumbered (r : Report) : Type 0 where
  pub workers : ArePartsWell r.workers.items → AllByRecursion IsPartNumbered r.workers.items
  pub places : AllByRecursion IsListNumbered r.places.items
  pub between : IsBetweenNumbered r
  pub uses : AllByRecursion IsUseNumbered r.uses.items
