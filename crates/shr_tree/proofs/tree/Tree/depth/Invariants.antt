-- SPDX-License-Identifier: GPL-2.0-only
use Rattle.std.proofs.Common.{◌≡◌, ◌+◌, ◌<◌, length}
use Rattle.shr_model.specs.Trees.{depth_of}
use Rattle.shr_tree.proofs.tree.Tree.depth.Given as goal

abbrev pub invariant-loop-at : goal.invariant-loop-at
invariant-loop-at l = record {
  there : l.at < length l.self.parents;
  counted : l.depth + depth_of l.self.parents l.at ≡ 1 + depth_of l.self.parents l.g;
}

abbrev pub decreases-loop-at : goal.decreases-loop-at
decreases-loop-at l = l.at
