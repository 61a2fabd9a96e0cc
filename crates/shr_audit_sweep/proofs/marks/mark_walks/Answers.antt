-- SPDX-License-Identifier: GPL-2.0-only
use Rattle.shr_audit_sweep.proofs.Common.{length, ap, refl, ◌∙◌, length-set, job_index}
use Rattle.shr_audit_sweep.proofs.Marking.{in_marks, walks_all, walks_more, walks_twice, within_at}
use Rattle.shr_audit_sweep.proofs.marks.mark_walks.Goals as goal

pub mark_walk-requires : goal.mark_walk-requires
mark_walk-requires c =
    in_marks c.args.groups c.args.nodes c.walk-item.result (length c.loop-walk.marks.items) c.loop-walk.invariant.size
    (within_at c.args.groups c.args.nodes c.args.walks.now c.loop-walk.walk-index c.walk-item.result c.requires.within c.loop-walk-test.true c.walk-item.is)

pub returns-then-not-mark_walk-clause-once : goal.returns-then-not-mark_walk-clause-once
returns-then-not-mark_walk-clause-once c = λ before h.
    walks_twice c.args.groups c.args.nodes before c.args.walks.now c.loop-walk.walk-index c.walk-item.result c.loop-walk.marks.items c.mark_walk.result
    (within_at c.args.groups c.args.nodes c.args.walks.now c.loop-walk.walk-index c.walk-item.result c.requires.within c.loop-walk-test.true c.walk-item.is) c.loop-walk-test.true c.walk-item.is
    c.mark_walk.ensures.fresh c.if-not-mark_walk.true (c.loop-walk.invariant.marked before h)

pub loop-walk-preserved : goal.loop-walk-preserved
loop-walk-preserved c = record {
  size = ap length c.mark_walk.ensures.marked ∙ (length-set c.loop-walk.marks.items (job_index c.args.nodes c.walk-item.result.group c.walk-item.result.node) _ ∙ c.loop-walk.invariant.size);
  marked = λ before h.
      walks_more c.args.groups c.args.nodes before c.args.walks.now c.loop-walk.walk-index c.walk-item.result c.loop-walk.marks.items c.mark_walk.new.marks.items c.mark_walk.result
      (within_at c.args.groups c.args.nodes c.args.walks.now c.loop-walk.walk-index c.walk-item.result c.requires.within c.loop-walk-test.true c.walk-item.is) c.loop-walk-test.true c.walk-item.is
      c.mark_walk.ensures.fresh c.if-not-mark_walk.false c.mark_walk.ensures.marked (c.loop-walk.invariant.marked before h);
}

pub returns-clause-once : goal.returns-clause-once
returns-clause-once c = λ before h. (
  λ t. (walks_all c.args.groups c.args.nodes before c.args.walks.now c.loop-walk.walk-index c.loop-walk.marks.items c.loop-walk-test.false (c.loop-walk.invariant.marked before h)).once,
  λ o. refl,
)

pub returns-clause-marked : goal.returns-clause-marked
returns-clause-marked c = λ before h t. walks_all c.args.groups c.args.nodes before c.args.walks.now c.loop-walk.walk-index c.loop-walk.marks.items c.loop-walk-test.false (c.loop-walk.invariant.marked before h)
