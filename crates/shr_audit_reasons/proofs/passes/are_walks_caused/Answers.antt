-- SPDX-License-Identifier: GPL-2.0-only
use Rattle.shr_audit_reasons.proofs.SpentCommon.{ℕ, length, refl, slice_get_read, Script, WalkRecord, EachItem, each_all, each_more, fails, Report, EachAttempt, IsRunCaused}
use Rattle.shr_audit_reasons.proofs.passes.are_walks_caused.Goals as goal

abbrev caused : Script → Report → ℕ → WalkRecord → Type 0
caused s r worker w = EachAttempt w (λ a. IsRunCaused s r worker w a)

pub returns-then-not-are_runs_caused : goal.returns-then-not-are_runs_caused
returns-then-not-are_runs_caused c =
    let p = caused c.args.script.now c.args.report.now c.args.worker in
    let ws = c.args.walks.now in
    let w = c.walk-item.result in
    fails (p w) (EachItem p ws) c.are_runs_caused.result c.are_runs_caused.ensures c.if-not-are_runs_caused.true (λ all. all c.loop-walk.walk-index w (slice_get_read ws (length ws) c.loop-walk.walk-index w refl c.loop-walk-test.true c.walk-item.is))

pub loop-walk-preserved : goal.loop-walk-preserved
loop-walk-preserved c = each_more (caused c.args.script.now c.args.report.now c.args.worker) c.args.walks.now c.loop-walk.walk-index c.walk-item.result c.loop-walk-test.true c.walk-item.is c.loop-walk.invariant
    (c.are_runs_caused.ensures.0 c.if-not-are_runs_caused.false)

pub returns : goal.returns
returns c = each_all (caused c.args.script.now c.args.report.now c.args.worker) c.args.walks.now c.loop-walk.walk-index c.loop-walk-test.false c.loop-walk.invariant
