-- SPDX-License-Identifier: GPL-2.0-only
use Rattle.shr_audit_formed.proofs.Common.{arith, wheres, group_places}
use Rattle.shr_audit_formed.proofs.Strip.{met, not_met}
use Rattle.shr_audit_formed.proofs.maps.strip_nodes.Goals as goal

pub returns-in_default-clause-none : goal.returns-in_default-clause-none
returns-in_default-clause-none c =
    not_met (λ node. group_places node c.args.groups c.args.units) 0 c.args.nodes c.loop-node.node c.loop-node.node (wheres c.args.maps.now) (wheres c.loop-node.rest.now) (omega arith) c.loop-node-test.true c.loop-node.invariant c.in_default.ensures.none

pub loop-node-preserved : goal.loop-node-preserved
loop-node-preserved c = met (λ node. group_places node c.args.groups c.args.units) 0 c.loop-node.node c.loop-node.node (wheres c.args.maps.now) (wheres c.loop-node.rest.now) (wheres c.in-Some.more.now) (omega arith) c.loop-node.invariant c.in-Some.ensures.some
