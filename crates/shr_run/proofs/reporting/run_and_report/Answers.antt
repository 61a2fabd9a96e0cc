-- SPDX-License-Identifier: GPL-2.0-only
use Rattle.shr_run.proofs.Common.{◌≡◌, List, subst, IfOk, Ok, Err, Result, Ends, WorkerLog, AreEnds}
use Rattle.shr_base.specs.declared.memory.Memory.{Memory}
use Rattle.shr_base.specs.declared.scripts.Script.{Script}
use Rattle.shr_laws.specs.declared.report.Report.{Report}
use Rattle.shr_assemble.specs.Makes.{IsMadeOf}
use Rattle.shr_run.specs.Made.{IsReportOfRun}
use Rattle.shr_run.proofs.reporting.run_and_report.Goals as goal

-- the report of ends of the script's tables is one of a run of it
of_run : (s : Script) (logs : List WorkerLog) (e : Ends) (answer : Result Report Memory) → e.script ≡ s → AreEnds logs e → IfOk answer (IsMadeOf e.script logs e) → IfOk answer (IsReportOfRun s)
of_run s logs e (Ok r) same ran made = record { logs = logs; ends = e; script = same; ran = ran; made = subst (λ (z : Script). IsMadeOf z logs e r) same made }
of_run s logs e (Err m) same ran made = made

pub returns-clause-made : goal.returns-clause-made
returns-clause-made g c = let ran = c.in_ok-ends.ensures in of_run c.args.script c.in_ok-ends.field-0.logs.items c.in_ok-ends.field-0.ends c.assemble.result ran.script ran.ran c.assemble.ensures.made
