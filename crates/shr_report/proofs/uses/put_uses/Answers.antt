-- SPDX-License-Identifier: GPL-2.0-only
use Rattle.shr_report.proofs.Common.{◌≡◌, ◌+◌, ◌-◌, arith, prints_part, use_line, IsUseNumbered}
use Rattle.shr_report.proofs.Ranges.{each_joined}
use Rattle.shr_report.proofs.Joined.{lines_next}
use Rattle.shr_report.proofs.uses.put_uses.Goals as goal

pub loop-done-preserved : goal.loop-done-preserved
loop-done-preserved g c =
    let done = c.loop-done.done in
    let few = c.min-few.result in
    let width : done + few - done ≡ few = omega arith in
    record {
      within = omega (arith, c.min-few.ensures, c.loop-done-test.true);
      printed = prints_part _ _ _ _ _ _ _ _ _ c.loop-done.invariant.printed c.put.ensures (lines_next use_line c.args.steps.now done few _ (rw width at c.few_uses-start.ensures.text));
      numbers = each_joined IsUseNumbered c.args.steps.now done few c.loop-done.invariant.numbers (rw width at c.few_uses-start.ensures.numbers);
    }
