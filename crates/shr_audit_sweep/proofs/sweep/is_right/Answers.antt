-- SPDX-License-Identifier: GPL-2.0-only
use Rattle.shr_audit_sweep.proofs.Marking.{right_decided}
use Rattle.shr_audit_sweep.proofs.sweep.is_right.Goals as goal

pub returns : goal.returns
returns c =
    right_decided c.args.script.now c.args.report.now c.args.sweep c.are_swept_out-whole.result c.in_ok-walked.walked (c.are_answered.ensures.0 c.if-not-are_answered.false) c.are_swept_out-whole.ensures c.in_ok-walked.ensures
