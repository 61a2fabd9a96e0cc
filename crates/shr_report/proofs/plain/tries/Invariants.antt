-- SPDX-License-Identifier: GPL-2.0-only
use Rattle.shr_report.proofs.Common.{drop, take, AllByRecursion, PrintsTo, IsTryNumbered, numbered, pass_line}
use Rattle.shr_report.proofs.plain.tries.Given as goal

abbrev pub invariant-loop-pool : goal.invariant-loop-pool
invariant-loop-pool g l = record {
  printed : PrintsTo g.K.Sink.written g.K.Sink.faults l.fn.out l.out (numbered pass_line 0 l.tries) (numbered pass_line l.pool (drop l.pool l.tries));
  numbers : AllByRecursion IsTryNumbered (take l.pool l.tries);
}
