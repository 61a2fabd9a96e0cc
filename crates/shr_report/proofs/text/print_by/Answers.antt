-- SPDX-License-Identifier: GPL-2.0-only
use Rattle.std.proofs.Common.{sym}
use Rattle.shr_report.proofs.ReportBack.{once}
use Rattle.shr_report.proofs.text.print_by.Goals as goal

pub returns-in_err-replies-clause-determined : goal.returns-in_err-replies-clause-determined
returns-in_err-replies-clause-determined g c w s v e = once c.args.report.now s w v (sym e)

pub returns-in_err-walks-clause-determined : goal.returns-in_err-walks-clause-determined
returns-in_err-walks-clause-determined g c w s v e = once c.args.report.now s w v (sym e)

pub returns-clause-determined : goal.returns-clause-determined
returns-clause-determined g c w s v e = once c.args.report.now s w v (sym e)
