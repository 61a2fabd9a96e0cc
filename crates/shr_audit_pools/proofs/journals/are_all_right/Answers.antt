-- SPDX-License-Identifier: GPL-2.0-only
use Rattle.shr_audit_formed.proofs.Eachs.{each_all, each_more}
use Rattle.shr_laws.specs.Pools.{AreUnitsRight}
use Rattle.shr_audit_pools.proofs.journals.are_all_right.Goals as goal

pub loop-units-preserved : goal.loop-units-preserved
loop-units-preserved c =
    each_more (AreUnitsRight c.args.script.now) c.args.ends.now c.loop-units.units-index c.units-item.result c.loop-units-test.true c.units-item.is c.loop-units.invariant (c.are_units_right.ensures.0 c.if-not-are_units_right.false)

pub returns : goal.returns
returns c = each_all (AreUnitsRight c.args.script.now) c.args.ends.now c.loop-units.units-index c.loop-units-test.false c.loop-units.invariant
