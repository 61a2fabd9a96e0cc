-- SPDX-License-Identifier: GPL-2.0-only
use Rattle.std.proofs.Common.{◌≡◌, ◌+◌}
use Rattle.shr_print.specs.Cuts.{IsCutTo}
use Rattle.shr_print.proofs.cutter.cut_all.Given as goal

abbrev pub invariant-loop-item : goal.invariant-loop-item
invariant-loop-item g l = record {
  cuts : IsCutTo l.cutter.cuts.items l.cutter.at;
  at : l.cutter.at ≡ l.fn.cutter.at + l.item-index;
}
