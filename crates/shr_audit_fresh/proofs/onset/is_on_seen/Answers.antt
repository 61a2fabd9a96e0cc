-- SPDX-License-Identifier: GPL-2.0-only
use Rattle.shr_audit_fresh.proofs.Common.{ℕ, ◌≤◌, subst, arith, IsOnSeenAt}
use Rattle.shr_audit_fresh.proofs.OnLaws.{past_on}
use Rattle.shr_audit_case.proofs.Upto.{upto_all, upto_fails, upto_more}
use Rattle.shr_audit_fresh.proofs.onset.is_on_seen.Goals as goal

pub loop-number-preserved : goal.loop-number-preserved
loop-number-preserved c = upto_more (IsOnSeenAt c.args.script.now c.args.report.now c.args.worker) c.loop-number.number c.loop-number.invariant (c.is_on_seen_at.ensures.0 c.if-not-is_on_seen_at.false)

pub returns-then-not-is_on_seen_at : goal.returns-then-not-is_on_seen_at
returns-then-not-is_on_seen_at c = upto_fails (IsOnSeenAt c.args.script.now c.args.report.now c.args.worker) c.loop-number.number c.is_on_seen_at.result c.is_on_seen_at.ensures c.if-not-is_on_seen_at.true

pub returns : goal.returns
returns c =
    let s = c.args.script.now in
    let r = c.args.report.now in
    let w = c.args.worker in
    let over = subst (λ (n : ℕ). n ≤ c.loop-number.number) c.count_answers-number-end.ensures c.loop-number-test.false in
    upto_all (IsOnSeenAt s r w) c.loop-number.number c.loop-number.invariant (λ k le. past_on s r w k (omega (arith, over, le)))
