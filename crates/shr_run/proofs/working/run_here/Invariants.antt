-- SPDX-License-Identifier: GPL-2.0-only
use Rattle.shr_run.proofs.Common.{All, Starting}
use Rattle.shr_worker.specs.Tasks.{IsTask}
use Rattle.shr_run.proofs.Here.{HasRunFront}
use Rattle.shr_run.proofs.working.run_here.Given as goal

abbrev pub invariant-loop-start : goal.invariant-loop-start
invariant-loop-start g l = record {
  next : (goal.iterator-loop-start g).can_next l.start-iterator;
  finite : (goal.iterator-loop-start g).is_finite l.start-iterator;
  tasks : All (λ (s : Starting). IsTask s.shared s.task) l.start-iterator.rest.items;
  front : HasRunFront l.start-iterator.rest.items l.fn.starts.items l.results.items;
}
