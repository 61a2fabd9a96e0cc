-- SPDX-License-Identifier: GPL-2.0-only
use Rattle.shr_audit_walks.proofs.RoundsCommon.{ℕ, jobs_made, jobs_over, round_control}
use Rattle.shr_audit_walks.proofs.Begun.{behind_none, nodes_all, nodes_fail, nodes_more}
use Rattle.shr_audit_walks.proofs.round_rows.behind_round.Goals as goal

pub loop-node-init : goal.loop-node-init
loop-node-init c = behind_none c.args.whole (jobs_made c.args.walks.now)

pub returns-in_default-clause-none : goal.returns-in_default-clause-none
returns-in_default-clause-none c = nodes_fail (λ (node : ℕ). jobs_over (round_control c.args.priority node) c.args.groups.now) c.args.nodes c.loop-node.node c.args.whole (jobs_made c.args.walks.now) (jobs_made c.loop-node.rest.now) c.loop-node-test.true c.loop-node.invariant c.in_default.ensures.none

pub loop-node-preserved : goal.loop-node-preserved
loop-node-preserved c = nodes_more (λ (node : ℕ). jobs_over (round_control c.args.priority node) c.args.groups.now) c.args.nodes c.loop-node.node c.args.whole (jobs_made c.args.walks.now) (jobs_made c.loop-node.rest.now) (jobs_made c.in-Some.more.now) c.loop-node-test.true c.loop-node.invariant c.in-Some.ensures.some

pub returns-clause-some : goal.returns-clause-some
returns-clause-some c = nodes_all (λ (node : ℕ). jobs_over (round_control c.args.priority node) c.args.groups.now) c.args.nodes c.loop-node.node c.args.whole (jobs_made c.args.walks.now) (jobs_made c.loop-node.rest.now) c.loop-node-test.false c.loop-node.invariant
