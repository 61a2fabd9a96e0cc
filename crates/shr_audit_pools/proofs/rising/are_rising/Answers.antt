-- SPDX-License-Identifier: GPL-2.0-only
use Rattle.shr_audit_pools.proofs.Common.{length, refl, arith, slice_get_read, all_at, more_at, IsAbove, item_fails}
use Rattle.shr_audit_pools.proofs.Risen.{above_decided, blank_lows, lows_more}
use Rattle.shr_audit_pools.proofs.rising.are_rising.Goals as goal

pub loop-k-init : goal.loop-k-init
loop-k-init c = record { right = λ n a lt. absurd (omega (arith, lt)); lows = blank_lows c.args.answers.now c.no_lows-lows.result c.no_lows-lows.ensures }

pub returns-then-not-is_high : goal.returns-then-not-is_high
returns-then-not-is_high c =
    let answers = c.args.answers.now in
    item_fails (IsAbove answers) answers answers c.loop-k.k c.index-answers-k.result c.is_high.result refl c.loop-k-test.true c.index-answers-k.is
    (above_decided answers c.loop-k.k c.index-answers-k.result c.loop-k.lows c.is_high.result c.loop-k.invariant.lows c.is_high.ensures.small c.is_high.ensures.high) c.if-not-is_high.true

pub loop-k-preserved : goal.loop-k-preserved
loop-k-preserved c =
    let answers = c.args.answers.now in
    let a = c.index-answers-k.result in
    record {
      right = more_at (IsAbove answers) answers c.loop-k.k a c.loop-k-test.true c.index-answers-k.is c.loop-k.invariant.right
          ((above_decided answers c.loop-k.k a c.loop-k.lows c.is_high.result c.loop-k.invariant.lows c.is_high.ensures.small c.is_high.ensures.high).0 c.if-not-is_high.false);
      lows = lows_more answers c.loop-k.k a c.loop-k.lows c.note_reply.new.lows (slice_get_read answers (length answers) c.loop-k.k a refl c.loop-k-test.true c.index-answers-k.is) c.loop-k.invariant.lows c.in_ok-note_reply.ensures;
    }

pub returns : goal.returns
returns c = all_at (IsAbove c.args.answers.now) c.args.answers.now c.loop-k.k c.loop-k-test.false c.loop-k.invariant.right
