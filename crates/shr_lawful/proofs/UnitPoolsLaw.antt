-- SPDX-License-Identifier: GPL-2.0-only
-- The report of a run is lawful at the pools of units.
use Rattle.shr_lawful.proofs.UnitsCommon.{List, Script, Report, UnitsStep, AreUnits, pool_sizes, refl, ArePoolsLawful}
use Rattle.shr_lawful.proofs.UnitPrinting as printing
use Rattle.shr_lawful.proofs.UnitRepliesLaw as replies
use Rattle.shr_lawful.proofs.UnitCiting as citing
use Rattle.shr_lawful.proofs.UnitWalksLaw as walks
use Rattle.shr_lawful.proofs.UnitDueLaw as due
use Rattle.shr_lawful.proofs.UnitVersionsLaw as versions
use Rattle.shr_lawful.proofs.UnitDeferredLaw as deferred

pub pools_lawful : (s : Script) (r : Report) (workers : List (List UnitsStep)) → AreUnits s r workers → ArePoolsLawful s r
pools_lawful s r workers run = record {
  units = replies.units s r workers run;
  once = printing.printed_once (pool_sizes s) refl run.journal r run.units;
  replies = replies.replies s r workers run;
  cited = replies.cited s r workers run;
  rise = citing.rise s r workers run;
  full = citing.full s r workers run;
  walks = walks.walks_lawful s r workers run;
  due = due.due s r workers run;
  commands = due.commands s r workers run;
  versions = versions.versions_fall_not s r workers run;
  later = versions.later s r workers run;
  no_others = replies.no_others s r workers run;
  deferred = deferred.words s r workers run;
  shown = run.shown;
}
