-- SPDX-License-Identifier: GPL-2.0-only
use Rattle.std.proofs.Common.{◌≡◌, ◌+◌}
use Rattle.shr_print.specs.Cuts.{IsCutTo}
use Rattle.shr_print.proofs.cutter.Cutter.row.Given as goal

abbrev pub invariant-loop-left : goal.invariant-loop-left
invariant-loop-left l = record {
  cuts : IsCutTo l.self.cuts.items l.self.at;
  at : l.self.at + l.left ≡ l.fn.self.at + l.items;
}

abbrev pub decreases-loop-left : goal.decreases-loop-left
decreases-loop-left l = l.left
