-- SPDX-License-Identifier: GPL-2.0-only
use Rattle.std.proofs.Common.{arith}
use Rattle.shr_audit_charges.proofs.TreeLaw.{first_none, first_more, first_all}
use Rattle.shr_audit_charges.proofs.tree.first_states.Goals as goal

pub loop-is_later-init : goal.loop-is_later-init
loop-is_later-init c = first_none c.args.later.now c.new-states.result.items c.new-states.ensures.items

pub loop-is_later-preserved : goal.loop-is_later-preserved
loop-is_later-preserved c = first_more c.args.later.now c.loop-is_later.is_later-index _ c.loop-is_later.states.items c.push.new.self.items c.loop-is_later-test.true c.loop-is_later.invariant c.in_ok-push.ensures.items

pub returns : goal.returns
returns c = first_all c.args.later.now c.loop-is_later.is_later-index c.loop-is_later.states.items c.loop-is_later-test.false (omega arith) c.loop-is_later.invariant
