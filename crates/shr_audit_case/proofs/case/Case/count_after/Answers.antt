-- SPDX-License-Identifier: GPL-2.0-only
use Rattle.shr_audit_case.proofs.Telling.{no_journal, no_items_taken}
use Rattle.shr_audit_case.proofs.case.Case.count_after.Goals as goal

pub returns-in-Some : goal.returns-in-Some
returns-in-Some c = c.count_in.ensures _ _ _ c.in-Some.ensures

pub returns-in-None : goal.returns-in-None
returns-in-None c = no_items_taken _ _ c.args.entries (no_journal c.args.report.now.places.items c.args.place c.in-None.ensures)
