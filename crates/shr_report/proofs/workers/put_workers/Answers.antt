-- SPDX-License-Identifier: GPL-2.0-only
use Rattle.shr_report.proofs.Common.{refl, prints_part, prints_all, IsPartNumbered, worker_lines, slice_get_read}
use Rattle.shr_report.proofs.Ranges.{each_more, each_done}
use Rattle.shr_report.proofs.Numbered.{numbered_next, numbered_end}
use Rattle.shr_report.proofs.workers.put_workers.Goals as goal

pub loop-worker-preserved : goal.loop-worker-preserved
loop-worker-preserved g c =
    let part = c.index-parts-worker.result in
    let worker = c.loop-worker.worker in
    record {
      printed = prints_part _ _ _ _ _ _ _ _ _ c.loop-worker.invariant.printed c.put_answers.ensures.printed
          (numbered_next worker_lines c.args.parts.now worker worker _ part c.loop-worker-test.true c.index-parts-worker.is refl);
      numbers = λ well. each_more IsPartNumbered c.args.parts.now worker part c.loop-worker-test.true c.index-parts-worker.is (c.loop-worker.invariant.numbers well)
          (c.put_answers.ensures.numbers (well worker part (slice_get_read c.args.parts.now _ worker part refl c.loop-worker-test.true c.index-parts-worker.is)));
    }

pub returns-clause-printed : goal.returns-clause-printed
returns-clause-printed g c = prints_all _ _ _ _ _ _ c.loop-worker.invariant.printed (numbered_end worker_lines c.args.parts.now c.loop-worker.worker c.loop-worker.worker c.loop-worker-test.false)

pub returns-clause-numbers : goal.returns-clause-numbers
returns-clause-numbers g c = λ well. each_done IsPartNumbered c.args.parts.now c.loop-worker.worker c.loop-worker-test.false (c.loop-worker.invariant.numbers well)
