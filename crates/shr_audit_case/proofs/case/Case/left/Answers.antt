-- SPDX-License-Identifier: GPL-2.0-only
use Rattle.shr_audit_case.proofs.Common.{map, sym, ap, tag_of}
use Rattle.shr_audit_case.proofs.Telling.{no_journal, no_items}
use Rattle.shr_audit_case.proofs.case.Case.left.Goals as goal

pub returns-in-None : goal.returns-in-None
returns-in-None c = sym (ap (map tag_of) (no_items _ _ (no_journal c.args.report.now.places.items c.args.place c.in-None.ensures)))
