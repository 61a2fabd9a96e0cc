-- SPDX-License-Identifier: GPL-2.0-only
use Rattle.shr_audit_causes.proofs.UnregistersCommon.{ℕ, ◌≤◌, subst, arith, upto_all, upto_fails, upto_more, IsUnregisterCausedAt}
use Rattle.shr_audit_causes.proofs.UnregisterRowLaws.{past_caused}
use Rattle.shr_audit_causes.proofs.unregister_rows.is_worker_caused.Goals as goal

pub loop-number-preserved : goal.loop-number-preserved
loop-number-preserved c = upto_more (IsUnregisterCausedAt c.args.script.now c.args.report.now c.args.worker) c.loop-number.number c.loop-number.invariant (c.is_caused_at.ensures.0 c.if-not-is_caused_at.false)

pub returns-then-not-is_caused_at : goal.returns-then-not-is_caused_at
returns-then-not-is_caused_at c = upto_fails (IsUnregisterCausedAt c.args.script.now c.args.report.now c.args.worker) c.loop-number.number c.is_caused_at.result c.is_caused_at.ensures c.if-not-is_caused_at.true

pub returns : goal.returns
returns c =
    let s = c.args.script.now in
    let r = c.args.report.now in
    let w = c.args.worker in
    let over = subst (λ (n : ℕ). n ≤ c.loop-number.number) c.count_answers-number-end.ensures c.loop-number-test.false in
    upto_all (IsUnregisterCausedAt s r w) c.loop-number.number c.loop-number.invariant (λ k le. past_caused s r w k (omega (arith, over, le)))
