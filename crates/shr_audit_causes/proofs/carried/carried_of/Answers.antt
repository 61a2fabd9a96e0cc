-- SPDX-License-Identifier: GPL-2.0-only
use Rattle.std.proofs.Common.{◌∙◌, take}
use Rattle.shr_audit_causes.proofs.CarriedLaws.{all_carried, carries_more, many_none, none_carried}
use Rattle.shr_audit_causes.proofs.carried.carried_of.Goals as goal

pub loop-carry-init : goal.loop-carry-init
loop-carry-init c = record {
  count = many_none c.count_answers-count.result c.in_ok-carried.carried.items c.in_ok-carried.ensures;
  each = none_carried c.args.worker c.count_answers-count.result c.in_ok-carried.carried.items c.in_ok-carried.ensures;
}

pub loop-carry-preserved : goal.loop-carry-preserved
loop-carry-preserved c = record {
  count = c.note.ensures.count ∙ c.loop-carry.invariant.count;
  each = carries_more c.args.worker c.carries_of-carry-items.result.now c.loop-carry.carry-index _ c.note.new.carried.items c.loop-carry-test.true
      (c.note.ensures.noted (take c.loop-carry.carry-index c.carries_of-carry-items.result.now) c.loop-carry.invariant.each);
}

pub returns : goal.returns
returns c = all_carried c.args.report.now c.args.worker c.count_answers-count.result c.carries_of-carry-items.result.now c.loop-carry.carry-index c.loop-carry.carried.items c.carries_of-carry-items.ensures c.loop-carry-test.false c.count_answers-count.ensures c.loop-carry.invariant.count c.loop-carry.invariant.each
