-- SPDX-License-Identifier: GPL-2.0-only
use Rattle.shr_audit_isolations.proofs.Lists.{lawful_decided}
use Rattle.shr_audit_isolations.proofs.isolations.are_isolations_lawful.Goals as goal

pub returns : goal.returns
returns c = lawful_decided c.args.script.now c.args.report.now c.in_ok-right.right (c.are_told.ensures.0 c.if-not-are_told.false) c.in_ok-right.ensures
