-- SPDX-License-Identifier: GPL-2.0-only
use Rattle.shr_audit_charges.proofs.Common.{down_keys, flat_all}
use Rattle.shr_audit_charges.proofs.uses.note_downs.Goals as goal
use Rattle.shr_model.proofs.Lists.{flat_copied}

pub loop-step-preserved : goal.loop-step-preserved
loop-step-preserved c = flat_copied (down_keys c.args.own) c.args.uses.now c.loop-step.step-index _ c.args.keys.now.items c.loop-step.keys.items c.note_down.new.keys.items c.loop-step-test.true c.loop-step.invariant c.in_ok-note_down.ensures

pub returns : goal.returns
returns c = flat_all (down_keys c.args.own) c.args.uses.now c.loop-step.step-index c.args.keys.now.items c.loop-step.keys.items c.loop-step-test.false c.loop-step.invariant
