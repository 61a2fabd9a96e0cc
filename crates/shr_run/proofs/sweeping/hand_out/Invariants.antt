-- SPDX-License-Identifier: GPL-2.0-only
use Rattle.shr_run.proofs.Common.{◌≡◌, ◌++◌, length, map, All, IsTrue, WorkerResult, worker_of, HasPass, handed_out}
use Rattle.shr_pool.specs.Passes as passes
use Rattle.shr_run.proofs.sweeping.hand_out.Given as goal

abbrev pub invariant-loop-worker : goal.invariant-loop-worker
invariant-loop-worker g l = record {
  next : (goal.iterator-loop-worker g).can_next l.worker-iterator;
  finite : (goal.iterator-loop-worker g).is_finite l.worker-iterator;
  shared : l.shared ≡ l.fn.shared;
  queue : l.jobs.queue ≡ l.fn.jobs.queue;
  first : passes.IsJobPass l.jobs.queue l.jobs.first;
  view : passes.pass_view l.jobs.first ≡ handed_out (passes.pass_view l.fn.jobs.first).pushed (length l.helpers.items);
  workers : map worker_of l.helpers.items ++ l.worker-iterator.rest.items ≡ l.fn.results.items;
  passes : All (HasPass l.fn.shared l.jobs.queue (passes.pass_view l.fn.jobs.first).pushed) l.helpers.items;
  whole : All (λ (w : WorkerResult). IsTrue w.whole) l.worker-iterator.rest.items → All (λ (w : WorkerResult). IsTrue w.whole) l.fn.results.items;
}
