-- SPDX-License-Identifier: GPL-2.0-only
use Rattle.shr_audit_causes.proofs.OfflinesCommon.{◌+◌, ◌-◌, ◌*◌, ◌<◌, ◌∙◌, List, subst, take, arith, sum_by, Entry, moved_of, AreCappedSums}
use Rattle.shr_audit_causes.proofs.MovedLaws.{all_moved, moved_by, places_more, sums_none}
use Rattle.shr_audit_causes.proofs.moved.moved_of.Goals as goal
use Rattle.shr_audit_causes.proofs.CarriedLaws.{many_none}

pub loop-k-init : goal.loop-k-init
loop-k-init c = record {
  count = many_none 65536 c.in_ok-moved.moved.items c.in_ok-moved.ensures;
  sums = sums_none 65536 c.in_ok-moved.moved.items c.in_ok-moved.ensures;
}

pub loop-k-preserved : goal.loop-k-preserved
loop-k-preserved c =
    let r = c.args.report.now in
    let ends = c.as_slice-ends.result.now in
    let k = c.loop-k.k in
    let next = c.run_end-next.result in
    let d = c.index-ends-k.result in
    let new = c.note_all.new.moved.items in
    let reached = c.run_end-next.ensures.reached in
    let low : k < next = omega (arith, reached) in
    record {
      count = c.note_all.ensures.count ∙ c.loop-k.invariant.count;
      sums = places_more r ends k next d low c.run_end-next.ensures.within c.run_end-next.ensures.same new
          (subst (λ (es : List Entry). AreCappedSums (λ g. sum_by (moved_by r g) (take k ends) + (next - k) * sum_by (moved_of g) es) new) c.journal_at-entries.ensures
          (c.note_all.ensures.noted (λ g. sum_by (moved_by r g) (take k ends)) c.loop-k.invariant.sums));
    }

pub returns : goal.returns
returns c = all_moved c.args.report.now c.as_slice-ends.result.now c.loop-k.k c.loop-k.moved.items c.as_slice-ends.ensures c.loop-k-test.false c.loop-k.invariant.count c.loop-k.invariant.sums
