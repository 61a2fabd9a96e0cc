-- SPDX-License-Identifier: GPL-2.0-only
use Rattle.shr_report.proofs.Common.{take, flat_map, AllByRecursion, Prints, IsIsolationNumbered, isolation_line}
use Rattle.shr_report.proofs.logs.isolations.Given as goal

abbrev pub invariant-loop-i : goal.invariant-loop-i
invariant-loop-i g l = record {
  printed : Prints g.K.Sink.written g.K.Sink.faults l.fn.out l.out (flat_map isolation_line (take l.i-index l.isolations));
  numbers : AllByRecursion IsIsolationNumbered (take l.i-index l.isolations);
}
