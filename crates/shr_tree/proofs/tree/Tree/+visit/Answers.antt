-- SPDX-License-Identifier: GPL-2.0-only
use Rattle.shr_tree.proofs.Common.{◌≡◌, ◌++◌, ◌∷◌, [], length, get_or, ℕ, List, arith, ap, sym, ◌∙◌, flat_map, children_of, preorder_of, append_assoc, take_all}
use Rattle.shr_model.proofs.GroupsLaws.{child_listed, child_higher, preorder_of-group}
use Rattle.shr_tree.proofs.TreeLaws.{within, children_at, is_tree}
use Rattle.shr_tree.proofs.tree.Tree.+visit.Goals as goal

pub of-child-items-requires : goal.of-child-items-requires
of-child-items-requires t c = within c.self.inside.paths c.self.inside.groups.items c.self.inside.children.lists c.args.self.now c.args.g c.self.invariant c.self.view_is c.requires

pub visit-requires : goal.visit-requires
visit-requires t c =
    let seen = c.args.self.now in
    let tree = is_tree c.self.inside.paths c.self.inside.groups.items c.self.inside.children.lists seen c.self.invariant c.self.view_is in
    let listed : c.of-child-items.result.now ≡ children_of seen.parents c.args.g = c.of-child-items.ensures ∙ children_at c.self.inside.paths c.self.inside.groups.items c.self.inside.children.lists seen c.args.g [] c.self.invariant c.self.view_is c.requires in
    let at = c.loop-child.child-index in
    let same = ap (λ (xs : List ℕ). get_or xs at 0) listed in
    let long = ap (length {A = ℕ}) listed in
    let child = child_listed seen.parents c.args.g at (omega (arith, long, c.loop-child-test.true)) in
    let there = child.there in
    let higher = child_higher seen.parents c.args.g (get_or (children_of seen.parents c.args.g) at 0) tree child in
    (omega (arith, there, higher, same, c.decreases), omega (arith, there, same))

pub returns : goal.returns
returns t c =
    let seen = c.args.self.now in
    let tree = is_tree c.self.inside.paths c.self.inside.groups.items c.self.inside.children.lists seen c.self.invariant c.self.view_is in
    let listed : c.of-child-items.result.now ≡ children_of seen.parents c.args.g = c.of-child-items.ensures ∙ children_at c.self.inside.paths c.self.inside.groups.items c.self.inside.children.lists seen c.args.g [] c.self.invariant c.self.view_is c.requires in
    c.loop-child.invariant
    ∙ rw (take_all c.loop-child.child-index c.of-child-items.result.now c.loop-child-test.false, listed)
    (append_assoc c.args.order.now.items (c.args.g ∷ []) (flat_map (preorder_of seen.parents) (children_of seen.parents c.args.g)))
    ∙ ap (λ (xs : List ℕ). c.args.order.now.items ++ xs) (sym (preorder_of-group seen.parents tree c.args.g c.requires))
