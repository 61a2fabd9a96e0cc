-- SPDX-License-Identifier: GPL-2.0-only
use Rattle.shr_audit_tables.proofs.Common.{IsCarryRight, each_all}
use Rattle.shr_audit_tables.proofs.deferred.are_carries_right.Goals as goal
use Rattle.shr_audit_formed.proofs.Eachs.{each_copied}

pub loop-carry-preserved : goal.loop-carry-preserved
loop-carry-preserved c = each_copied (IsCarryRight c.args.script.now c.args.report.now) c.args.carries.now c.loop-carry.carry-index _ c.loop-carry-test.true c.loop-carry.invariant (c.is_carry_right.ensures.0 c.if-not-is_carry_right.false)

pub returns : goal.returns
returns c = each_all (IsCarryRight c.args.script.now c.args.report.now) c.args.carries.now c.loop-carry.carry-index c.loop-carry-test.false c.loop-carry.invariant
