-- SPDX-License-Identifier: GPL-2.0-only
use Rattle.shr_outside.specs.Paper.{Prints}
use Rattle.shr_print.specs.Cuts.{cut_at}
use Rattle.shr_print.proofs.parts.put_parts.Given as goal

abbrev pub invariant-loop-i : goal.invariant-loop-i
invariant-loop-i g l = record {
  printed : Prints g.K.Sink.written g.K.Sink.faults l.fn.out l.out (g.S.Section.text l.section (cut_at l.cuts 0) (cut_at l.cuts l.i));
  known : g.S.Section.known l.section (cut_at l.cuts 0) (cut_at l.cuts l.i);
}
