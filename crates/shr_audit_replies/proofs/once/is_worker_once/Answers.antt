-- SPDX-License-Identifier: GPL-2.0-only
use Rattle.shr_audit_replies.proofs.OnceCommon.{ℕ, ◌≤◌, subst, arith, upto_all, upto_fails, upto_more, IsCitedOnceAt}
use Rattle.shr_audit_replies.proofs.OnceLaws.{past_once}
use Rattle.shr_audit_replies.proofs.once.is_worker_once.Goals as goal

pub loop-number-preserved : goal.loop-number-preserved
loop-number-preserved c = upto_more (IsCitedOnceAt c.args.report.now c.args.worker) c.loop-number.number c.loop-number.invariant (c.is_cited_once_at.ensures.0 c.if-not-is_cited_once_at.false)

pub returns-then-not-is_cited_once_at : goal.returns-then-not-is_cited_once_at
returns-then-not-is_cited_once_at c = upto_fails (IsCitedOnceAt c.args.report.now c.args.worker) c.loop-number.number c.is_cited_once_at.result c.is_cited_once_at.ensures c.if-not-is_cited_once_at.true

pub returns : goal.returns
returns c =
    let r = c.args.report.now in
    let w = c.args.worker in
    let over = subst (λ (n : ℕ). n ≤ c.loop-number.number) c.count_answers-number-end.ensures c.loop-number-test.false in
    upto_all (IsCitedOnceAt r w) c.loop-number.number c.loop-number.invariant (λ k le. past_once r w k (omega (arith, over, le)))
