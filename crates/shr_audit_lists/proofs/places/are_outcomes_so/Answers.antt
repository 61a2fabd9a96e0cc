-- SPDX-License-Identifier: GPL-2.0-only
use Rattle.shr_audit_lists.proofs.Journals.{outcomes_of}
use Rattle.shr_audit_lists.proofs.places.are_outcomes_so.Goals as goal

pub returns : goal.returns
returns c = outcomes_of c.args.case.now.parents.items c.args.report.now c.are_outcomes_printed-so.result c.are_outcomes_printed-so.ensures
