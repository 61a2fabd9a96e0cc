-- SPDX-License-Identifier: GPL-2.0-only
use Rattle.shr_audit_passes.proofs.Common.{Decides, each_more, each_all, IsShaped}
use Rattle.shr_audit_passes.proofs.shape.are_shaped.Goals as goal

pub loop-walk-preserved : goal.loop-walk-preserved
loop-walk-preserved c =
    let d : Decides c.in_ok-is_shaped.field-0 (IsShaped c.args.script.now c.walk-item.result) = c.in_ok-is_shaped.ensures in
    each_more (IsShaped c.args.script.now) c.args.walks.now c.loop-walk.walk-index c.walk-item.result c.loop-walk-test.true c.walk-item.is c.loop-walk.invariant (d.0 c.if-not-branch.false)

pub returns : goal.returns
returns c = each_all (IsShaped c.args.script.now) c.args.walks.now c.loop-walk.walk-index c.loop-walk-test.false c.loop-walk.invariant
