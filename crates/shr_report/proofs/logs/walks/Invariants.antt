-- SPDX-License-Identifier: GPL-2.0-only
use Rattle.shr_report.proofs.Common.{◌+◌, drop, take, AllByRecursion, PrintsTo, IsWalkNumbered, numbered, walk_lines}
use Rattle.shr_report.proofs.logs.walks.Given as goal

abbrev pub invariant-loop-i : goal.invariant-loop-i
invariant-loop-i g l = record {
  printed : PrintsTo g.K.Sink.written g.K.Sink.faults l.fn.out l.out (numbered walk_lines l.first l.walks) (numbered walk_lines (l.first + l.i) (drop l.i l.walks));
  numbers : AllByRecursion IsWalkNumbered (take l.i l.walks);
}
