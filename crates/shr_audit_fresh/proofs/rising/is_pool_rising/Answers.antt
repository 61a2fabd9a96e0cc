-- SPDX-License-Identifier: GPL-2.0-only
use Rattle.shr_audit_fresh.proofs.Common.{Some, None, subst, Answered, pool_seen, After}
use Rattle.shr_audit_fresh.proofs.RisingLaws.{all_rise, falls_here, none_yet, one_further}
use Rattle.shr_audit_fresh.proofs.rising.is_pool_rising.Goals as goal

pub loop-answer-init : goal.loop-answer-init
loop-answer-init c = none_yet pool_seen c.args.answers.now

pub loop-answer-preserved : goal.loop-answer-preserved
loop-answer-preserved c = one_further pool_seen c.args.answers.now c.loop-answer.answer-index c.loop-answer.low c.answer-item.result (Some c.in-Some.last) c.loop-answer-test.true c.loop-answer.invariant
    (subst (λ (a : Answered). After c.loop-answer.low (pool_seen a) (Some c.in-Some.last)) c.answer-item.is c.in-Some.ensures)

pub returns-in_default : goal.returns-in_default
returns-in_default c = falls_here pool_seen c.args.answers.now c.loop-answer.answer-index c.loop-answer.low c.answer-item.result c.loop-answer-test.true c.loop-answer.invariant
    (subst (λ (a : Answered). After c.loop-answer.low (pool_seen a) None) c.answer-item.is c.in_default.ensures)

pub returns : goal.returns
returns c = all_rise pool_seen c.args.answers.now c.loop-answer.answer-index c.loop-answer.low c.loop-answer-test.false c.loop-answer.invariant
