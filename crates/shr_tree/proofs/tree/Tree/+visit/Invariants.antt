-- SPDX-License-Identifier: GPL-2.0-only
use Rattle.shr_tree.proofs.Common.{◌≡◌, ◌++◌, ◌∷◌, [], length, take, flat_map, preorder_of, ◌-◌}
use Rattle.shr_tree.proofs.tree.Tree.+visit.Given as goal

abbrev pub decreases-visit : goal.decreases-visit
decreases-visit l = length l.self.now.parents - l.g

abbrev pub invariant-loop-child : goal.invariant-loop-child
invariant-loop-child l = l.order.items ≡ (l.fn.order.items ++ l.g ∷ []) ++ flat_map (preorder_of l.self.parents) (take l.child-index l.child-items)
