-- SPDX-License-Identifier: GPL-2.0-only
use Rattle.shr_report.proofs.Common.{take, flat_map, AllByRecursion, Prints, IsPlainEntryNumbered, plain_entry_line}
use Rattle.shr_report.proofs.units.entries.Given as goal

abbrev pub invariant-loop-entry : goal.invariant-loop-entry
invariant-loop-entry g l = record {
  printed : Prints g.K.Sink.written g.K.Sink.faults l.fn.out l.out (flat_map plain_entry_line (take l.entry-index l.entries));
  numbers : AllByRecursion IsPlainEntryNumbered (take l.entry-index l.entries);
}
