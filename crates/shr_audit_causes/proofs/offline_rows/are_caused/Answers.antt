-- SPDX-License-Identifier: GPL-2.0-only
use Rattle.shr_audit_causes.proofs.OfflinesCommon.{ℕ, ◌≤◌, subst, arith, upto_all, upto_fails, upto_more, IsOfflineCausedAt}
use Rattle.shr_audit_causes.proofs.OfflineRowLaws.{past_workers}
use Rattle.shr_audit_causes.proofs.offline_rows.are_caused.Goals as goal

pub loop-worker-preserved : goal.loop-worker-preserved
loop-worker-preserved c = let s = c.args.script.now in let r = c.args.report.now in
    upto_more (λ w. (k : ℕ) → IsOfflineCausedAt s r w k) c.loop-worker.worker c.loop-worker.invariant (c.in_ok-caused.ensures.0 c.if-not-caused.false)

pub returns-then-not-caused : goal.returns-then-not-caused
returns-then-not-caused c = let s = c.args.script.now in let r = c.args.report.now in
    upto_fails (λ w. (k : ℕ) → IsOfflineCausedAt s r w k) c.loop-worker.worker c.in_ok-caused.caused c.in_ok-caused.ensures c.if-not-caused.true

pub returns : goal.returns
returns c =
    let s = c.args.script.now in
    let r = c.args.report.now in
    let over = subst (λ (n : ℕ). n ≤ c.loop-worker.worker) c.len-worker-end.ensures c.loop-worker-test.false in
    upto_all (λ w. (k : ℕ) → IsOfflineCausedAt s r w k) c.loop-worker.worker c.loop-worker.invariant (λ w le k. past_workers s r w k (omega (arith, over, le)))
