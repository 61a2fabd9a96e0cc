-- SPDX-License-Identifier: GPL-2.0-only
use Rattle.shr_audit_case.proofs.Telling.{no_printed}
use Rattle.shr_audit_case.proofs.case.Case.items_are_left.Goals as goal

pub returns-in-None : goal.returns-in-None
returns-in-None c = no_printed _ c.args.report.now.places.items c.args.place c.in-None.ensures
