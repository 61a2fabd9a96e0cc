-- SPDX-License-Identifier: GPL-2.0-only
use Rattle.shr_walk.proofs.Common.{◌≡◌, take, groups_of}
use Rattle.shr_walk.proofs.opening.tree_of.Given as goal

abbrev pub invariant-loop-group : goal.invariant-loop-group
invariant-loop-group l = record { so_far : l.tree ≡ groups_of (take l.group-index l.groups); same : l.groups ≡ l.fn.groups }
