-- SPDX-License-Identifier: GPL-2.0-only
use Rattle.shr_report.proofs.Common.{take, flat_map, AllByRecursion, Prints, IsCarryNumbered, carry_line}
use Rattle.shr_report.proofs.logs.carries.Given as goal

abbrev pub invariant-loop-c : goal.invariant-loop-c
invariant-loop-c g l = record {
  printed : Prints g.K.Sink.written g.K.Sink.faults l.fn.out l.out (flat_map carry_line (take l.c-index l.carries));
  numbers : AllByRecursion IsCarryNumbered (take l.c-index l.carries);
}
