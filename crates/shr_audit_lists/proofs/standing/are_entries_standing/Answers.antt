-- SPDX-License-Identifier: GPL-2.0-only
use Rattle.shr_audit_lists.proofs.Allowing.{standing_of}
use Rattle.shr_audit_lists.proofs.standing.are_entries_standing.Goals as goal

pub returns : goal.returns
returns c = standing_of c.args.parents.now c.args.report.now c.in_ok-standing.standing c.in_ok-standing.ensures
