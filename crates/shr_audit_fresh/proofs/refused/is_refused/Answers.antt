-- SPDX-License-Identifier: GPL-2.0-only
use Rattle.shr_audit_fresh.proofs.Common.{ℕ, ◌≤◌, subst, arith, IsRefusedAt}
use Rattle.shr_audit_fresh.proofs.RefusedLaws.{past_refused}
use Rattle.shr_audit_case.proofs.Upto.{upto_all, upto_fails, upto_more}
use Rattle.shr_audit_fresh.proofs.refused.is_refused.Goals as goal

pub loop-number-preserved : goal.loop-number-preserved
loop-number-preserved c = upto_more (IsRefusedAt c.args.script.now c.args.report.now c.args.worker) c.loop-number.number c.loop-number.invariant (c.is_refused_at.ensures.0 c.if-not-is_refused_at.false)

pub returns-then-not-is_refused_at : goal.returns-then-not-is_refused_at
returns-then-not-is_refused_at c = upto_fails (IsRefusedAt c.args.script.now c.args.report.now c.args.worker) c.loop-number.number c.is_refused_at.result c.is_refused_at.ensures c.if-not-is_refused_at.true

pub returns : goal.returns
returns c =
    let s = c.args.script.now in
    let r = c.args.report.now in
    let w = c.args.worker in
    let over = subst (λ (n : ℕ). n ≤ c.loop-number.number) c.count_commands-number-end.ensures c.loop-number-test.false in
    upto_all (IsRefusedAt s r w) c.loop-number.number c.loop-number.invariant (λ k le. past_refused s r w k (omega (arith, over, le)))
