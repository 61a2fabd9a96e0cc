-- SPDX-License-Identifier: GPL-2.0-only
use Rattle.shr_audit_passes.specs.Kinds.{IsKindAt}
use Rattle.shr_audit_passes.proofs.Common.{Attempt}
use Rattle.shr_audit_passes.proofs.kinds.are_kinds_at.Goals as goal
use Rattle.shr_audit_formed.proofs.Eachs.{each_all, each_more, one_fails}

pub returns-then-not-is_kind_at : goal.returns-then-not-is_kind_at
returns-then-not-is_kind_at c =
    one_fails (λ n (a : Attempt). IsKindAt c.args.script.now c.args.report.now c.args.priority a) c.args.attempts.now c.loop-attempt.attempt-index c.attempt-item.result c.is_kind_at.result c.loop-attempt-test.true c.attempt-item.is c.is_kind_at.ensures c.if-not-is_kind_at.true

pub loop-attempt-preserved : goal.loop-attempt-preserved
loop-attempt-preserved c =
    each_more (IsKindAt c.args.script.now c.args.report.now c.args.priority) c.args.attempts.now c.loop-attempt.attempt-index c.attempt-item.result c.loop-attempt-test.true c.attempt-item.is c.loop-attempt.invariant (c.is_kind_at.ensures.0 c.if-not-is_kind_at.false)

pub returns : goal.returns
returns c = each_all (IsKindAt c.args.script.now c.args.report.now c.args.priority) c.args.attempts.now c.loop-attempt.attempt-index c.loop-attempt-test.false c.loop-attempt.invariant
