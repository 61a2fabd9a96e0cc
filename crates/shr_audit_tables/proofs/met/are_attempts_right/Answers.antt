-- SPDX-License-Identifier: GPL-2.0-only
use Rattle.shr_audit_tables.proofs.LookupsCommon.{subst, Decides, IsMetRight, each_more}
use Rattle.shr_base.specs.Walks.{Attempt}
use Rattle.shr_audit_tables.proofs.met.are_attempts_right.Goals as goal
use Rattle.shr_audit_formed.proofs.Eachs.{each_fail, each_whole}

pub returns-then-not-is_met_right : goal.returns-then-not-is_met_right
returns-then-not-is_met_right c =
    each_fail (IsMetRight c.args.report.now) c.attempts-attempt-items.result.now c.args.walk.now.attempts.items c.loop-attempt.attempt-index c.attempt-item.result c.is_met_right.result c.attempts-attempt-items.ensures c.loop-attempt-test.true
    (subst (λ (a : Attempt). Decides c.is_met_right.result (IsMetRight c.args.report.now a)) c.attempt-item.is c.is_met_right.ensures) c.if-not-is_met_right.true

pub loop-attempt-preserved : goal.loop-attempt-preserved
loop-attempt-preserved c =
    each_more (IsMetRight c.args.report.now) c.attempts-attempt-items.result.now c.loop-attempt.attempt-index c.attempt-item.result c.loop-attempt-test.true c.attempt-item.is c.loop-attempt.invariant (c.is_met_right.ensures.0 c.if-not-is_met_right.false)

pub returns : goal.returns
returns c = each_whole (IsMetRight c.args.report.now) c.attempts-attempt-items.result.now c.args.walk.now.attempts.items c.loop-attempt.attempt-index c.attempts-attempt-items.ensures c.loop-attempt-test.false c.loop-attempt.invariant
