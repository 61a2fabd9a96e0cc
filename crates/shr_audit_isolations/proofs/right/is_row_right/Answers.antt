-- SPDX-License-Identifier: GPL-2.0-only
use Rattle.shr_audit_isolations.proofs.Common.{each_all, each_more, told_of, IsToldRight}
use Rattle.shr_audit_isolations.proofs.right.is_row_right.Goals as goal

pub loop-gathered-preserved : goal.loop-gathered-preserved
loop-gathered-preserved c =
    each_more (λ g. IsToldRight c.args.script.now c.args.report.now c.args.worker (told_of g)) c.args.row.now c.loop-gathered.gathered-index c.gathered-item.result c.loop-gathered-test.true c.gathered-item.is c.loop-gathered.invariant
    (c.is_right.ensures.0 c.if-not-is_right.false)

pub returns : goal.returns
returns c = each_all (λ g. IsToldRight c.args.script.now c.args.report.now c.args.worker (told_of g)) c.args.row.now c.loop-gathered.gathered-index c.loop-gathered-test.false c.loop-gathered.invariant
