-- SPDX-License-Identifier: GPL-2.0-only
use Rattle.shr_report.proofs.Common.{◌≡◌, ◌≤◌, ◌*◌, drop, length, flat_map, AllByRecursion, use_line, IsUseNumbered}
use Rattle.shr_report.proofs.uses.few_uses.Given as goal

abbrev pub invariant-loop-left : goal.invariant-loop-left
invariant-loop-left l = record {
  within : l.left ≤ length l.steps;
  room : 128 * l.left ≤ l.start;
  start : l.start ≤ 512;
  text : drop l.start l.piece ≡ flat_map use_line (drop l.left l.steps);
  numbers : AllByRecursion IsUseNumbered (drop l.left l.steps);
}

abbrev pub decreases-loop-left : goal.decreases-loop-left
decreases-loop-left l = l.left
