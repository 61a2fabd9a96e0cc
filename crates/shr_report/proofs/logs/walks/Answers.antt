-- SPDX-License-Identifier: GPL-2.0-only
use Rattle.shr_report.proofs.Common.{◌+◌, add_assoc, sym, prints_part, prints_all, walk_lines, IsWalkNumbered}
use Rattle.shr_report.proofs.Ranges.{each_more, each_done}
use Rattle.shr_report.proofs.Numbered.{numbered_next, numbered_end}
use Rattle.shr_report.proofs.logs.walks.Goals as goal

pub loop-i-preserved : goal.loop-i-preserved
loop-i-preserved g c = record {
  printed = prints_part _ _ c.args.out.now c.loop-i.out c.walk.new.out _ _ (walk_lines (c.args.first + c.loop-i.i) c.index-walks-i.result) _ c.loop-i.invariant.printed c.walk.ensures.printed
      (numbered_next walk_lines c.args.walks.now c.loop-i.i (c.args.first + c.loop-i.i) _ c.index-walks-i.result c.loop-i-test.true c.index-walks-i.is (sym (add_assoc c.args.first c.loop-i.i 1)));
  numbers = each_more IsWalkNumbered c.args.walks.now c.loop-i.i c.index-walks-i.result c.loop-i-test.true c.index-walks-i.is c.loop-i.invariant.numbers c.walk.ensures.numbers;
}

pub returns-clause-printed : goal.returns-clause-printed
returns-clause-printed g c = prints_all _ _ _ _ _ _ c.loop-i.invariant.printed (numbered_end walk_lines c.args.walks.now c.loop-i.i (c.args.first + c.loop-i.i) c.loop-i-test.false)

pub returns-clause-numbers : goal.returns-clause-numbers
returns-clause-numbers g c = each_done IsWalkNumbered c.args.walks.now c.loop-i.i c.loop-i-test.false c.loop-i.invariant.numbers
