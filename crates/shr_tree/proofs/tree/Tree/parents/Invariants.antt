-- SPDX-License-Identifier: GPL-2.0-only
use Rattle.shr_tree.proofs.Common.{◌≡◌, map, take, Group}
use Rattle.shr_tree.proofs.tree.Tree.parents.Given as goal

abbrev pub invariant-loop-group : goal.invariant-loop-group
invariant-loop-group l = l.parents.items ≡ map (λ (g : Group). g.parent) (take l.group-index l.group-items)
