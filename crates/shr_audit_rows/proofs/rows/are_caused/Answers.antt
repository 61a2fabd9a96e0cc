-- SPDX-License-Identifier: GPL-2.0-only
use Rattle.shr_audit_rows.proofs.Common.{ℕ, ◌≤◌, subst, arith, upto_all, upto_fails, upto_more, IsCausedAt}
use Rattle.shr_audit_rows.proofs.RowLaws.{past_workers}
use Rattle.shr_audit_rows.proofs.rows.are_caused.Goals as goal

pub loop-worker-preserved : goal.loop-worker-preserved
loop-worker-preserved c = let s = c.args.script.now in let r = c.args.report.now in
    upto_more (λ w. (k : ℕ) → IsCausedAt s r w k) c.loop-worker.worker c.loop-worker.invariant (c.is_worker_caused.ensures.0 c.if-not-is_worker_caused.false)

pub returns-then-not-is_worker_caused : goal.returns-then-not-is_worker_caused
returns-then-not-is_worker_caused c = let s = c.args.script.now in let r = c.args.report.now in
    upto_fails (λ w. (k : ℕ) → IsCausedAt s r w k) c.loop-worker.worker c.is_worker_caused.result c.is_worker_caused.ensures c.if-not-is_worker_caused.true

pub returns : goal.returns
returns c =
    let s = c.args.script.now in
    let r = c.args.report.now in
    let over = subst (λ (n : ℕ). n ≤ c.loop-worker.worker) c.len-worker-end.ensures c.loop-worker-test.false in
    upto_all (λ w. (k : ℕ) → IsCausedAt s r w k) c.loop-worker.worker c.loop-worker.invariant (λ w le k. past_workers s r w k (omega (arith, over, le)))
