-- SPDX-License-Identifier: GPL-2.0-only
use Rattle.shr_report.proofs.Common.{◌≤◌, ◌-◌, take, drop, length, flat_map, AllByRecursion, PrintsTo, use_line, IsUseNumbered}
use Rattle.shr_report.proofs.uses.put_uses.Given as goal

abbrev pub invariant-loop-done : goal.invariant-loop-done
invariant-loop-done g l = record {
  within : l.done ≤ length l.steps;
  printed : PrintsTo g.K.Sink.written g.K.Sink.faults l.fn.out l.out (flat_map use_line l.steps) (flat_map use_line (drop l.done l.steps));
  numbers : AllByRecursion IsUseNumbered (take l.done l.steps);
}

abbrev pub decreases-loop-done : goal.decreases-loop-done
decreases-loop-done g l = length l.steps - l.done
