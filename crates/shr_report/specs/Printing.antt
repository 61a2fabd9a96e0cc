-- SPDX-License-Identifier: GPL-2.0-only
-- How far what a worker has besides its answers is printed. No public clause cites this: the printer's
-- own do.
use Rattle.std.specs.Prelude.{◌≤◌, length, take, drop}
use Rattle.std.specs.List.{AllByRecursion}
use Rattle.shr_base.specs.declared.ends.WorkerPart.{WorkerPart}
use Rattle.shr_report.specs.declared.logs.Printed.{Printed}
use Rattle.shr_laws.specs.Text.{Logs}
use Rattle.shr_laws.specs.Numbers.{IsWalkNumbered, IsCarryNumbered, IsPlainNumbered, IsIsolationNumbered}

-- what is left to print
abbrev pub logs_from : WorkerPart → Printed → Logs
logs_from part at = record {
  isolations = drop at.isolations part.isolations.items;
  walk = at.walks;
  walks = drop at.walks part.walks.items;
  carries = drop at.carries part.carries.items;
  plain_walk = at.plain;
  plain = drop at.plain part.plain.items;
}

-- no more is printed than there is
pub record IsPrintedWithin (part : WorkerPart) (at : Printed) : Type 0 where
  pub isolations : at.isolations ≤ length part.isolations.items
  pub walks : at.walks ≤ length part.walks.items
  pub carries : at.carries ≤ length part.carries.items
  pub plain : at.plain ≤ length part.plain.items

-- what is printed has its numbers
pub record AreNumberedTo (part : WorkerPart) (at : Printed) : Type 0 where
  pub isolations : AllByRecursion IsIsolationNumbered (take at.isolations part.isolations.items)
  pub walks : AllByRecursion IsWalkNumbered (take at.walks part.walks.items)
  pub carries : AllByRecursion IsCarryNumbered (take at.carries part.carries.items)
  pub plain : AllByRecursion IsPlainNumbered (take at.plain part.plain.items)
