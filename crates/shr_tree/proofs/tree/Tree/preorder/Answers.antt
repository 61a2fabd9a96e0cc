-- SPDX-License-Identifier: GPL-2.0-only
use Rattle.shr_tree.proofs.Common.{◌≡◌, preorder_of}
use Rattle.shr_tree.proofs.TreeLaws.{is_tree, is_subtree}
use Rattle.shr_tree.proofs.tree.Tree.preorder.Goals as goal

pub returns-clause-subtree : goal.returns-clause-subtree
returns-clause-subtree c =
    let tree = is_tree c.self.inside.paths c.self.inside.groups.items c.self.inside.children.lists c.args.self.now c.self.invariant c.self.view_is in
    let order : c.visit.new.order.items ≡ preorder_of c.args.self.now.parents c.args.g = rw c.new-order.ensures.items at c.in_ok-visit.ensures in
    is_subtree c.args.self.now.parents c.args.g c.visit.new.order.items tree c.requires order
