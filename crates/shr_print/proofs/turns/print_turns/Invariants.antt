-- SPDX-License-Identifier: GPL-2.0-only
use Rattle.std.proofs.Common.{◌≤◌, ◌-◌}
use Rattle.shr_outside.specs.Paper.{Prints}
use Rattle.shr_print.specs.Cuts.{cut_at}
use Rattle.shr_print.proofs.turns.print_turns.Given as goal

abbrev pub invariant-loop-at : goal.invariant-loop-at
invariant-loop-at g l = record {
  printed : Prints g.K.Sink.written g.K.Sink.faults l.fn.out l.out (g.S.Section.text l.section 0 (cut_at l.cuts l.at));
  known : g.S.Section.known l.section 0 (cut_at l.cuts l.at);
  within : l.at ≤ l.last;
}

abbrev pub decreases-loop-at : goal.decreases-loop-at
decreases-loop-at g l = l.last - l.at
