-- SPDX-License-Identifier: GPL-2.0-only
use Rattle.shr_report.proofs.Common.{take, flat_map, AllByRecursion, Prints, IsListNumbered, place_lines}
use Rattle.shr_report.proofs.printers.put_places.Given as goal

abbrev pub invariant-loop-end : goal.invariant-loop-end
invariant-loop-end g l = record {
  printed : Prints g.K.Sink.written g.K.Sink.faults l.fn.out l.out (flat_map place_lines (take l.end-index l.ends));
  numbers : AllByRecursion IsListNumbered (take l.end-index l.ends);
}
