-- SPDX-License-Identifier: GPL-2.0-only
use Rattle.shr_audit_pools.proofs.Common.{ℕ, length, refl, take, arith, slice_get_read, PlainWalk, more_at, IsVersed, here_at}
use Rattle.shr_audit_pools.proofs.Versed.{later_command, part_fails, part_whole, versed_decided, versed_next, versed_none, versed_replied}
use Rattle.shr_audit_pools.proofs.versions.is_part_versed.Goals as goal

pub loop-n-init : goal.loop-n-init
loop-n-init c = record {
  right = λ n w lt. absurd (omega (arith, lt));
  next = λ w at_n. omega arith;
  lows = versed_none c.args.script.now c.as_slice-answers.result.now c.as_slice-walks.result.now c.no_lows-lows.result c.no_lows-lows.ensures;
}

pub returns-then-not-is_walk_high : goal.returns-then-not-is_walk_high
returns-then-not-is_walk_high c =
    let s = c.args.script.now in
    let part = c.args.part.now in
    let walks = c.as_slice-walks.result.now in
    let answers = c.as_slice-answers.result.now in
    let n = c.loop-n.n in
    let w = c.index-walks-n.result in
    let here = slice_get_read walks (length walks) n w refl c.loop-n-test.true c.index-walks-n.is in
    let lows = versed_replied s answers c.loop-n.known w.by.command (take n walks) c.loop-n.lows c.note_replies.new.lows (c.loop-n.invariant.next w here) c.loop-n.invariant.lows c.in_ok-note_replies.ensures in
    let dec = versed_decided s answers (take n walks) w c.note_replies.new.lows c.is_walk_high.result c.is_walk_high.ensures.small lows c.is_walk_high.ensures.high in
    part_fails s part walks answers n w c.is_walk_high.result c.as_slice-walks.ensures c.as_slice-answers.ensures c.loop-n-test.true c.index-walks-n.is dec c.if-not-is_walk_high.true

pub note_walk-requires : goal.note_walk-requires
note_walk-requires c = c.requires.few c.loop-n.n c.index-walks-n.result (here_at c.as_slice-walks.result.now c.args.part.now.plain.items c.loop-n.n c.index-walks-n.result c.as_slice-walks.ensures c.loop-n-test.true c.index-walks-n.is)

pub loop-n-preserved : goal.loop-n-preserved
loop-n-preserved c =
    let s = c.args.script.now in
    let part = c.args.part.now in
    let walks = c.as_slice-walks.result.now in
    let answers = c.as_slice-answers.result.now in
    let n = c.loop-n.n in
    let w = c.index-walks-n.result in
    let here = slice_get_read walks (length walks) n w refl c.loop-n-test.true c.index-walks-n.is in
    let lows = versed_replied s answers c.loop-n.known w.by.command (take n walks) c.loop-n.lows c.note_replies.new.lows (c.loop-n.invariant.next w here) c.loop-n.invariant.lows c.in_ok-note_replies.ensures in
    let dec = versed_decided s answers (take n walks) w c.note_replies.new.lows c.is_walk_high.result c.is_walk_high.ensures.small lows c.is_walk_high.ensures.high in
    record {
      right = more_at (λ (k : ℕ) (x : PlainWalk). IsVersed s answers (take k walks) x) walks n w c.loop-n-test.true c.index-walks-n.is c.loop-n.invariant.right (dec.0 c.if-not-is_walk_high.false);
      next = later_command part walks n w c.as_slice-walks.ensures c.requires.stand c.loop-n-test.true c.index-walks-n.is;
      lows = versed_next s answers w.by.command n walks w c.note_replies.new.lows c.note_walk.new.lows c.loop-n-test.true c.index-walks-n.is lows c.in_ok-note_walk.ensures;
    }

pub returns : goal.returns
returns c = part_whole c.args.script.now c.args.part.now c.as_slice-walks.result.now c.as_slice-answers.result.now c.loop-n.n c.as_slice-walks.ensures c.as_slice-answers.ensures c.loop-n-test.false c.loop-n.invariant.right
