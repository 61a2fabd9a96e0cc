-- SPDX-License-Identifier: GPL-2.0-only
use Rattle.shr_pool.proofs.Common.{ap, ◌∙◌, ◌++◌, ◌∷◌, [], length, arith, Walk, SweepJob, PassView, filling, with_push}
use Rattle.shr_pool.proofs.Filling.{walks, length_walks, length_line, next_walk}
use Rattle.shr_pool.proofs.Keeping.{begins}
use Rattle.shr_pool.proofs.jobs.Jobs.fill.Goals as goal

pub ruled-requires-clause-rule : goal.ruled-requires-clause-rule
ruled-requires-clause-rule g c = begins

pub push-requires-clause-room : goal.push-requires-clause-room
push-requires-clause-room g c = let long = ap (λ (v : PassView). length v.pushed) c.loop-i.invariant.1 ∙ length_walks c.args.groups c.loop-i.i in omega (arith, long, c.in_ok-queue.ensures.0, c.loop-i-test.true)

pub loop-i-preserved : goal.loop-i-preserved
loop-i-preserved g c = (
  c.push.ensures.pass,
  c.push.ensures.pushed ∙ (ap (λ (v : PassView). with_push v (Walk c.job.result)) c.loop-i.invariant.1 ∙ (ap (λ (j : SweepJob). filling (walks c.args.groups c.loop-i.i ++ Walk j ∷ [])) c.job.ensures ∙ ap filling (next_walk c.args.groups c.loop-i.i))),
)

pub push-requires-in-loop-mark-clause-room : goal.push-requires-in-loop-mark-clause-room
push-requires-in-loop-mark-clause-room g c = let long = ap (λ (v : PassView). length v.pushed) c.loop-mark.invariant.1 ∙ length_line c.args.nodes c.args.groups c.loop-mark._mark in omega (arith, long, c.in_ok-queue.ensures.0, c.loop-mark-test.true)
