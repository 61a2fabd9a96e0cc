-- SPDX-License-Identifier: GPL-2.0-only
use Rattle.shr_report.proofs.Common.{length, flat_map, AllByRecursion, PrintsTo, IsObjectNumbered, item_line}
use Rattle.shr_report.proofs.entries.items.Given as goal

abbrev pub invariant-loop-o : goal.invariant-loop-o
invariant-loop-o g l = record {
  printed : PrintsTo g.K.Sink.written g.K.Sink.faults l.fn.out l.out (flat_map item_line l.items.items) (flat_map item_line l.walk);
  numbers : AllByRecursion IsObjectNumbered l.walk → AllByRecursion IsObjectNumbered l.items.items;
}

abbrev pub decreases-loop-o : goal.decreases-loop-o
decreases-loop-o g l = length l.walk
