-- SPDX-License-Identifier: GPL-2.0-only
use Rattle.shr_tree.proofs.Common.{◌≡◌, map, take, Group}
use Rattle.shr_tree.proofs.tree.Tree.laters.Given as goal

abbrev pub invariant-loop-group : goal.invariant-loop-group
invariant-loop-group l = l.later.items ≡ map (λ (g : Group). g.later) (take l.group-index l.group-items)
