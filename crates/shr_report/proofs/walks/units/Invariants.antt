-- SPDX-License-Identifier: GPL-2.0-only
use Rattle.shr_report.proofs.Common.{◌≤◌, drop, take, length, AllByRecursion, PrintsTo, IsSeenNumbered, IsAttemptNumbered, map_lines}
use Rattle.shr_report.proofs.walks.units.Given as goal

abbrev pub invariant-loop-map : goal.invariant-loop-map
invariant-loop-map g l = record {
  within : l.at ≤ length l.all;
  printed : PrintsTo g.K.Sink.written g.K.Sink.faults l.fn.out l.out (map_lines l.maps l.all) (map_lines (drop l.map-index l.maps) (drop l.at l.all));
  maps : AllByRecursion IsSeenNumbered (take l.map-index l.maps);
  attempts : AllByRecursion IsAttemptNumbered (take l.at l.all);
}
