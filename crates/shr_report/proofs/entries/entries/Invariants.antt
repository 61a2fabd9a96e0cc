-- SPDX-License-Identifier: GPL-2.0-only
use Rattle.shr_report.proofs.Common.{take, flat_map, AllByRecursion, Prints, IsEntryNumbered, entry_line}
use Rattle.shr_report.proofs.entries.entries.Given as goal

abbrev pub invariant-loop-e : goal.invariant-loop-e
invariant-loop-e g l = record {
  printed : Prints g.K.Sink.written g.K.Sink.faults l.fn.out l.out (flat_map entry_line (take l.e-index l.entries));
  numbers : AllByRecursion IsEntryNumbered (take l.e-index l.entries);
}
