-- SPDX-License-Identifier: GPL-2.0-only
use Rattle.shr_audit_passes.proofs.Counted.{counts_of_script}
use Rattle.shr_audit_passes.proofs.counts.are_counts.Goals as goal

pub returns : goal.returns
returns c = λ s case. counts_of_script s c.args.report.now c.args.walk.now c.args.case.now.parents.items c.are_all_right-right.result case.parents c.are_all_right-right.ensures
