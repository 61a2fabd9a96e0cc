-- SPDX-License-Identifier: GPL-2.0-only
use Rattle.shr_audit_causes.proofs.OfflineRowLaws.{each_caused}
use Rattle.shr_audit_causes.proofs.offlines.are_offlines_caused.Goals as goal

pub returns : goal.returns
returns c = each_caused c.args.script.now c.args.report.now c.in_ok-all.all c.in_ok-all.ensures
