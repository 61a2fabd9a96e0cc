-- SPDX-License-Identifier: GPL-2.0-only
use Rattle.shr_audit_passes.specs.Kinds.{IsStopAt}
use Rattle.shr_audit_passes.proofs.Common.{subst, Decides}
use Rattle.shr_base.specs.Walks.{Attempt}
use Rattle.shr_audit_passes.proofs.kinds.are_stops.Goals as goal
use Rattle.shr_audit_formed.proofs.Eachs.{each_fail, each_more, each_whole}

pub returns-then-not-is_stop_at : goal.returns-then-not-is_stop_at
returns-then-not-is_stop_at c =
    each_fail (IsStopAt c.args.script.now c.args.report.now c.args.walk.now) c.attempts-attempt-items.result.now c.args.walk.now.attempts.items c.loop-attempt.attempt-index c.attempt-item.result c.is_stop_at.result c.attempts-attempt-items.ensures c.loop-attempt-test.true
    (subst (λ (a : Attempt). Decides c.is_stop_at.result (IsStopAt c.args.script.now c.args.report.now c.args.walk.now a)) c.attempt-item.is c.is_stop_at.ensures) c.if-not-is_stop_at.true

pub loop-attempt-preserved : goal.loop-attempt-preserved
loop-attempt-preserved c =
    each_more (IsStopAt c.args.script.now c.args.report.now c.args.walk.now) c.attempts-attempt-items.result.now c.loop-attempt.attempt-index c.attempt-item.result c.loop-attempt-test.true c.attempt-item.is c.loop-attempt.invariant (c.is_stop_at.ensures.0 c.if-not-is_stop_at.false)

pub returns : goal.returns
returns c = each_whole (IsStopAt c.args.script.now c.args.report.now c.args.walk.now) c.attempts-attempt-items.result.now c.args.walk.now.attempts.items c.loop-attempt.attempt-index c.attempts-attempt-items.ensures c.loop-attempt-test.false c.loop-attempt.invariant
