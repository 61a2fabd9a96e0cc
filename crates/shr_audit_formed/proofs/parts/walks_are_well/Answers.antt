-- SPDX-License-Identifier: GPL-2.0-only
use Rattle.shr_audit_formed.specs.Each.{IsWalkFormed}
use Rattle.shr_audit_formed.proofs.Eachs.{each_more, each_all}
use Rattle.shr_audit_formed.proofs.parts.walks_are_well.Goals as goal

pub loop-walk-preserved : goal.loop-walk-preserved
loop-walk-preserved c = each_more IsWalkFormed c.args.walks.now c.loop-walk.walk-index c.walk-item.result c.loop-walk-test.true c.walk-item.is c.loop-walk.invariant (c.is_walk_well.ensures.0 c.if-not-is_walk_well.false)

pub returns : goal.returns
returns c = each_all IsWalkFormed c.args.walks.now c.loop-walk.walk-index c.loop-walk-test.false c.loop-walk.invariant
