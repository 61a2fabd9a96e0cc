-- SPDX-License-Identifier: GPL-2.0-only
use Rattle.shr_report.proofs.Common.{drop, take, AllByRecursion, PrintsTo, IsPartNumbered, ArePartsWell, numbered, worker_lines}
use Rattle.shr_report.proofs.workers.put_workers.Given as goal

abbrev pub invariant-loop-worker : goal.invariant-loop-worker
invariant-loop-worker g l = record {
  printed : PrintsTo g.K.Sink.written g.K.Sink.faults l.fn.out l.out (numbered worker_lines 0 l.parts) (numbered worker_lines l.worker (drop l.worker l.parts));
  numbers : ArePartsWell l.parts → AllByRecursion IsPartNumbered (take l.worker l.parts);
}
