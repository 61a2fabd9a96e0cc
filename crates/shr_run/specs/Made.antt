-- SPDX-License-Identifier: GPL-2.0-only
-- The report of a run.
use Rattle.std.specs.Prelude.{◌≡◌, List}
use Rattle.shr_base.specs.declared.scripts.Script.{Script}
use Rattle.shr_tables.specs.declared.ending.Ends.{Ends}
use Rattle.shr_laws.specs.declared.report.Report.{Report}
use Rattle.shr_assemble.specs.declared.logs.WorkerLog.{WorkerLog}
use Rattle.shr_assemble.specs.Putting.{AreEnds}
use Rattle.shr_assemble.specs.Makes.{IsMadeOf}

-- The report is that of a run of the script: tables that were opened for it ended so after these logs
-- of its workers, and the report holds what they left and noted, and nothing else.
pub record IsReportOfRun (s : Script) (r : Report) : Type 0 where
  pub logs : List WorkerLog
  pub ends : Ends
  pub script : ends.script ≡ s
  pub ran : AreEnds logs ends
  pub made : IsMadeOf s logs ends r
