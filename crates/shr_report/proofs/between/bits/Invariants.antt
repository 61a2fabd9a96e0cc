-- SPDX-License-Identifier: GPL-2.0-only
use Rattle.shr_report.proofs.Common.{take, flat_map, AllByRecursion, Prints, IsMapNumbered, bit_line}
use Rattle.shr_report.proofs.between.bits.Given as goal

abbrev pub invariant-loop-map : goal.invariant-loop-map
invariant-loop-map g l = record {
  printed : Prints g.K.Sink.written g.K.Sink.faults l.fn.out l.out (flat_map (bit_line l.version) (take l.map-index l.maps));
  numbers : AllByRecursion IsMapNumbered (take l.map-index l.maps);
}
