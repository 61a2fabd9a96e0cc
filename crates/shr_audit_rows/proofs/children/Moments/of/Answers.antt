-- SPDX-License-Identifier: GPL-2.0-only
use Rattle.shr_audit_rows.proofs.Common.{◌≡◌, ◌∙◌, length, ap, arith, refl, length-replicate, is_done, is_making, done_in, group_made_in}
use Rattle.shr_audit_rows.proofs.MomentsLaws.{all_moments, doing, making, next_noted, noted_long, upto_none}
use Rattle.shr_audit_rows.proofs.children.Moments.of.Goals as goal

pub loop-n-init : goal.loop-n-init
loop-n-init c =
    let tree = c.as_slice-tree.result.now in
    let ok = c.in_ok-parents.parents.ok.0 in
    let a = ap length c.in_ok-made.ensures in
    let b = ap length c.in_ok-done.ensures in
    let m = length-replicate c.len.result (length tree) in
    let d = length-replicate c.len-2.result (length tree) in
    let l = c.len.ensures in
    let k = c.len-2.ensures in
    record {
      made = upto_none is_making group_made_in making tree c.len.result c.in_ok-made.made.items c.in_ok-made.ensures;
      done = upto_none is_done done_in doing tree c.len-2.result c.in_ok-done.done.items c.in_ok-done.ensures;
      made_count = omega (arith, a, m, l, ok);
      done_count = omega (arith, b, d, k, ok);
    }

pub loop-n-preserved : goal.loop-n-preserved
loop-n-preserved c =
    let tree = c.as_slice-tree.result.now in
    let n = c.loop-n.n in
    record {
      made = next_noted is_making group_made_in making tree n (length tree) _ c.loop-n.made.items c.note.new.moments.items c.made_in-newly.result c.loop-n-test.true refl c.made_in-newly.ensures c.note.ensures c.loop-n.invariant.made;
      done = next_noted is_done done_in doing tree n (length tree) _ c.loop-n.done.items c.note-in-loop-n.new.moments.items c.done_in-ended.result c.loop-n-test.true refl c.done_in-ended.ensures c.note-in-loop-n.ensures c.loop-n.invariant.done;
      made_count = noted_long n (length tree) c.loop-n.made.items c.note.new.moments.items c.made_in-newly.result c.note.ensures ∙ c.loop-n.invariant.made_count;
      done_count = noted_long n (length tree) c.loop-n.done.items c.note-in-loop-n.new.moments.items c.done_in-ended.result c.note-in-loop-n.ensures ∙ c.loop-n.invariant.done_count;
    }

pub returns : goal.returns
returns c =
    let tree = c.as_slice-tree.result.now in
    let le = c.loop-n-test.false in
    let most = c.loop-n.auto.n-end in
    let all : c.loop-n.n ≡ length tree = omega (arith, le, most) in
    all_moments c.args.script.now c.args.report.now (record { parents = c.in_ok-parents.parents; made = c.loop-n.made; done = c.loop-n.done }) tree c.loop-n.n c.as_slice-tree.ensures c.in_ok-parents.ensures
    c.loop-n.invariant.made_count c.loop-n.invariant.done_count all c.loop-n.invariant.made c.loop-n.invariant.done
