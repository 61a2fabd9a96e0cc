-- SPDX-License-Identifier: GPL-2.0-only
use Rattle.shr_run.proofs.Common.{◌≡◌, ◌++◌, map, All, IsTrue, AreFirst, held_by, WorkerResult, with_workers, IsAtEnd, log_of, last_of, firsts_of}
use Rattle.shr_run.proofs.Parting.{AreCounted}
use Rattle.shr_run.proofs.joining.join_all.Given as goal

abbrev pub invariant-loop-worker : goal.invariant-loop-worker
invariant-loop-worker l = record {
  next : (goal.iterator-loop-worker).can_next l.worker-iterator;
  finite : (goal.iterator-loop-worker).is_finite l.worker-iterator;
  tables : held_by l.first ≡ held_by l.fn.first;
  first : AreFirst l.first;
  rest : All (IsAtEnd (held_by l.fn.first)) l.worker-iterator.rest.items;
  joined : with_workers (firsts_of l.first) (map last_of l.worker-iterator.rest.items) ≡ with_workers (firsts_of l.fn.first) (map last_of l.fn.results.items);
  parted : AreCounted l.fn.first l.first l.worker-iterator.rest.items l.fn.results.items;
  whole : All (λ (w : WorkerResult). IsTrue w.whole) l.worker-iterator.rest.items → All (λ (w : WorkerResult). IsTrue w.whole) l.fn.results.items;
  logs : l.logs.items ++ map log_of l.worker-iterator.rest.items ≡ map log_of l.fn.results.items;
}
