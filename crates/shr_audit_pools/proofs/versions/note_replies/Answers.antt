-- SPDX-License-Identifier: GPL-2.0-only
use Rattle.shr_audit_pools.proofs.Common.{◌<◌, length, arith, slice_get-get_or}
use Rattle.shr_audit_pools.proofs.Risen.{replies_more}
use Rattle.shr_audit_pools.proofs.Versed.{replies_all}
use Rattle.shr_audit_pools.proofs.versions.note_replies.Goals as goal

pub loop-k-preserved : goal.loop-k-preserved
loop-k-preserved c =
    let answers = c.args.answers.now in
    let k = c.loop-k.k in
    let lt : k < length answers = (let a = c.loop-k-test.true in let b = c.requires.within in omega (arith, a, b)) in
    replies_more answers c.args.from k _ c.args.lows.now c.loop-k.lows c.note_reply.new.lows c.loop-k.auto.k (slice_get-get_or answers k _ lt) c.loop-k.invariant c.in_ok-note_reply.ensures

pub returns : goal.returns
returns c = replies_all c.args.answers.now c.args.from c.loop-k.k c.args.to c.args.lows.now c.loop-k.lows c.loop-k-test.false (c.loop-k.auto.k-end c.requires.order) c.loop-k.invariant
