-- SPDX-License-Identifier: GPL-2.0-only
use Rattle.shr_run.proofs.Common.{◌≡◌, ◌++◌, map, All, helped_of, IsPassBack}
use Rattle.shr_pool.specs.Passes as passes
use Rattle.shr_run.proofs.Passing.{IsJoining}
use Rattle.shr_run.proofs.sweeping.join_passes.Given as goal

abbrev pub invariant-loop-helper : goal.invariant-loop-helper
invariant-loop-helper l = record {
  next : (goal.iterator-loop-helper).can_next l.helper-iterator;
  finite : (goal.iterator-loop-helper).is_finite l.helper-iterator;
  queue : l.jobs.queue ≡ l.fn.jobs.queue;
  first : passes.IsJobPass l.jobs.queue l.jobs.first;
  joining : IsJoining l.fn.jobs.queue (passes.pass_view l.fn.jobs.first) (passes.pass_view l.jobs.first) l.helper-iterator.rest.items l.fn.helped.items;
  back : All (IsPassBack l.fn.jobs.queue) l.helper-iterator.rest.items;
  workers : l.workers.items ++ map helped_of l.helper-iterator.rest.items ≡ map helped_of l.fn.helped.items;
}
