-- SPDX-License-Identifier: GPL-2.0-only
use Rattle.shr_report.proofs.Common.{get_or, refl, prints_part, prints_all, Empty, IsTryNumbered, pass_line}
use Rattle.shr_report.proofs.Numbered.{numbered_next_at, numbered_end}
use Rattle.shr_report.proofs.Ranges.{each_more_at, each_done}
use Rattle.shr_report.proofs.plain.tries.Goals as goal

pub loop-pool-preserved : goal.loop-pool-preserved
loop-pool-preserved g c = record {
  printed = prints_part _ _ _ _ _ _ _ (pass_line c.loop-pool.pool (get_or c.args.tries.now c.loop-pool.pool (Empty 0))) _ c.loop-pool.invariant.printed c.put_try.ensures.printed
      (numbered_next_at pass_line c.args.tries.now c.loop-pool.pool c.loop-pool.pool _ (Empty 0) c.loop-pool-test.true refl);
  numbers = each_more_at IsTryNumbered c.args.tries.now c.loop-pool.pool (Empty 0) c.loop-pool-test.true c.loop-pool.invariant.numbers c.put_try.ensures.numbers;
}

pub returns-clause-printed : goal.returns-clause-printed
returns-clause-printed g c = prints_all _ _ _ _ _ _ c.loop-pool.invariant.printed (numbered_end pass_line c.args.tries.now c.loop-pool.pool c.loop-pool.pool c.loop-pool-test.false)

pub returns-clause-numbers : goal.returns-clause-numbers
returns-clause-numbers g c = each_done IsTryNumbered c.args.tries.now c.loop-pool.pool c.loop-pool-test.false c.loop-pool.invariant.numbers
