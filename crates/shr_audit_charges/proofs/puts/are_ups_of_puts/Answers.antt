-- SPDX-License-Identifier: GPL-2.0-only
use Rattle.shr_audit_charges.specs.Puts.{IsUpOfPut}
use Rattle.shr_audit_formed.proofs.Eachs.{each_all, each_copied}
use Rattle.shr_audit_charges.proofs.puts.are_ups_of_puts.Goals as goal

pub loop-step-preserved : goal.loop-step-preserved
loop-step-preserved c = each_copied (IsUpOfPut c.args.script.now) c.args.uses.now c.loop-step.step-index _ c.loop-step-test.true c.loop-step.invariant (c.is_up_of_put.ensures.0 c.if-not-is_up_of_put.false)

pub returns : goal.returns
returns c = each_all (IsUpOfPut c.args.script.now) c.args.uses.now c.loop-step.step-index c.loop-step-test.false c.loop-step.invariant
