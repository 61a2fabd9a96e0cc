-- SPDX-License-Identifier: GPL-2.0-only
use Rattle.shr_audit_case.proofs.Telling.{no_journal, no_outcomes}
use Rattle.shr_audit_case.proofs.case.Case.outcomes_are_so.Goals as goal

pub returns-in-None : goal.returns-in-None
returns-in-None c = no_outcomes _ _ (no_journal c.args.report.now.places.items c.args.place c.in-None.ensures)
