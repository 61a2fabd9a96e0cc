-- SPDX-License-Identifier: GPL-2.0-only
use Rattle.std.proofs.Common.{◌≡◌, ◌≤◌, length}
use Rattle.shr_walk.proofs.Opened.{IsDeepestTo}
use Rattle.shr_walk.proofs.opening.deepest.Given as goal

abbrev pub invariant-loop-group : goal.invariant-loop-group
invariant-loop-group l = record { so_far : IsDeepestTo l.tree.parents l.group l.most; within : l.group ≤ length l.tree.parents; same : l.tree ≡ l.fn.tree }
