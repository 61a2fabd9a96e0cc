-- SPDX-License-Identifier: GPL-2.0-only
use Rattle.shr_audit_fresh.proofs.Common.{ℕ, ◌≤◌, subst, arith, StaysMadeAt}
use Rattle.shr_audit_fresh.proofs.MadeLaws.{made_fails, made_next, made_start, past_made, stays_here}
use Rattle.shr_audit_case.proofs.Upto.{upto_all, upto_more}
use Rattle.shr_audit_fresh.proofs.made.stays_made.Goals as goal

pub loop-number-init : goal.loop-number-init
loop-number-init c = record {
  firsts = made_start c.args.script.now c.args.report.now c.args.worker c.no_firsts-firsts.result c.no_firsts-firsts.ensures;
  stays = λ k lt. absurd (omega (arith, lt));
}

pub loop-number-preserved : goal.loop-number-preserved
loop-number-preserved c =
    let s = c.args.script.now in
    let r = c.args.report.now in
    let w = c.args.worker in
    let n = c.loop-number.number in
    record {
      firsts = made_next s r w n c.made_at-shown.result c.loop-number.firsts c.note.new.firsts c.made_at-shown.ensures c.in_ok-note.ensures c.loop-number.invariant.firsts;
      stays = upto_more (StaysMadeAt s r w) n c.loop-number.invariant.stays
          (stays_here s r w n c.loop-number.firsts c.unmade_at.result c.loop-number.invariant.firsts c.unmade_at.ensures (c.may_say.ensures.0 c.if-not-may_say.false));
    }

pub returns-then-not-may_say : goal.returns-then-not-may_say
returns-then-not-may_say c = made_fails c.args.script.now c.args.report.now c.args.worker c.loop-number.number c.loop-number.firsts c.unmade_at.result c.loop-number.invariant.firsts c.unmade_at.ensures c.may_say.result c.may_say.ensures c.if-not-may_say.true

pub returns : goal.returns
returns c =
    let s = c.args.script.now in
    let r = c.args.report.now in
    let w = c.args.worker in
    let over = subst (λ (n : ℕ). n ≤ c.loop-number.number) c.count_answers-number-end.ensures c.loop-number-test.false in
    upto_all (StaysMadeAt s r w) c.loop-number.number c.loop-number.invariant.stays (λ k le. past_made s r w k (omega (arith, over, le)))
