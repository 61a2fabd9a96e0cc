-- SPDX-License-Identifier: GPL-2.0-only
use Rattle.shr_audit_reasons.proofs.SpentCommon.{subst, Decides, IsRunCaused, each_more}
use Rattle.shr_base.specs.Walks.{Attempt}
use Rattle.shr_audit_reasons.proofs.passes.are_runs_caused.Goals as goal
use Rattle.shr_audit_formed.proofs.Eachs.{each_fail, each_whole}

pub returns-then-not-is_run_caused : goal.returns-then-not-is_run_caused
returns-then-not-is_run_caused c =
    each_fail (IsRunCaused c.args.script.now c.args.report.now c.args.worker c.args.walk.now) c.attempts-attempt-items.result.now c.args.walk.now.attempts.items c.loop-attempt.attempt-index c.attempt-item.result c.is_run_caused.result c.attempts-attempt-items.ensures c.loop-attempt-test.true
    (subst (λ (a : Attempt). Decides c.is_run_caused.result (IsRunCaused c.args.script.now c.args.report.now c.args.worker c.args.walk.now a)) c.attempt-item.is c.is_run_caused.ensures) c.if-not-is_run_caused.true

pub loop-attempt-preserved : goal.loop-attempt-preserved
loop-attempt-preserved c =
    each_more (IsRunCaused c.args.script.now c.args.report.now c.args.worker c.args.walk.now) c.attempts-attempt-items.result.now c.loop-attempt.attempt-index c.attempt-item.result c.loop-attempt-test.true c.attempt-item.is c.loop-attempt.invariant
    (c.is_run_caused.ensures.0 c.if-not-is_run_caused.false)

pub returns : goal.returns
returns c = each_whole (IsRunCaused c.args.script.now c.args.report.now c.args.worker c.args.walk.now) c.attempts-attempt-items.result.now c.args.walk.now.attempts.items c.loop-attempt.attempt-index c.attempts-attempt-items.ensures c.loop-attempt-test.false c.loop-attempt.invariant
