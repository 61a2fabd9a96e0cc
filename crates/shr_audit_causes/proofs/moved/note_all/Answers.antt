-- SPDX-License-Identifier: GPL-2.0-only
use Rattle.shr_audit_causes.proofs.OfflinesCommon.{◌+◌, ◌*◌, ◌∙◌, List, ap, subst, take, sum_by, take_all, Entry, moved_of, AreCappedSums}
use Rattle.shr_audit_causes.proofs.MovedLaws.{entries_more, sums_same}
use Rattle.shr_audit_causes.proofs.moved.note_all.Goals as goal

pub loop-entry-preserved : goal.loop-entry-preserved
loop-entry-preserved c =
    let es = c.args.entries.now in
    let n = c.loop-entry.entry-index in
    let times = c.args.times in
    let e = c.entry-item.result in
    let new = c.note.new.moved.items in
    record {
      count = c.note.ensures.count ∙ c.loop-entry.invariant.count;
      noted = λ sums are. entries_more es n e times sums new c.loop-entry-test.true
          (subst (λ (x : Entry). AreCappedSums (λ g. (sums g + times * sum_by (moved_of g) (take n es)) + times * moved_of g x) new) c.entry-item.is
          (c.note.ensures.noted (λ g. sums g + times * sum_by (moved_of g) (take n es)) (c.loop-entry.invariant.noted sums are)));
    }

pub returns-clause-noted : goal.returns-clause-noted
returns-clause-noted c = λ sums are.
    sums_same (λ g. sums g + c.args.times * sum_by (moved_of g) (take c.loop-entry.entry-index c.args.entries.now)) (λ g. sums g + c.args.times * sum_by (moved_of g) c.args.entries.now) c.loop-entry.moved.items
    (λ g. ap (λ (es : List Entry). sums g + c.args.times * sum_by (moved_of g) es) (take_all c.loop-entry.entry-index c.args.entries.now c.loop-entry-test.false)) (c.loop-entry.invariant.noted sums are)
