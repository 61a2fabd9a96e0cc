-- SPDX-License-Identifier: GPL-2.0-only
use Rattle.shr_audit_replies.proofs.OnceCommon.{ℕ, ◌≤◌, subst, arith, upto_all, upto_fails, upto_more, IsCitedOnceAt}
use Rattle.shr_audit_replies.proofs.OnceLaws.{past_workers}
use Rattle.shr_audit_replies.proofs.once.are_cited_once.Goals as goal

pub loop-worker-preserved : goal.loop-worker-preserved
loop-worker-preserved c = let r = c.args.report.now in
    upto_more (λ w. (k : ℕ) → IsCitedOnceAt r w k) c.loop-worker.worker c.loop-worker.invariant (c.is_worker_once.ensures.0 c.if-not-is_worker_once.false)

pub returns-then-not-is_worker_once : goal.returns-then-not-is_worker_once
returns-then-not-is_worker_once c = let r = c.args.report.now in
    upto_fails (λ w. (k : ℕ) → IsCitedOnceAt r w k) c.loop-worker.worker c.is_worker_once.result c.is_worker_once.ensures c.if-not-is_worker_once.true

pub returns : goal.returns
returns c =
    let r = c.args.report.now in
    let over = subst (λ (n : ℕ). n ≤ c.loop-worker.worker) c.len-worker-end.ensures c.loop-worker-test.false in
    upto_all (λ w. (k : ℕ) → IsCitedOnceAt r w k) c.loop-worker.worker c.loop-worker.invariant (λ w le k. past_workers r w k (omega (arith, over, le)))
