-- SPDX-License-Identifier: GPL-2.0-only
use Rattle.shr_tree.proofs.Common.{◌≡◌, ◌<◌, get_or, false, None, List, arith, ap, ◌∙◌, depth_of, parent_of, Group}
use Rattle.shr_model.proofs.GroupsLaws.{depth_of-root, depth_of-below, depth_of-le}
use Rattle.shr_tree.proofs.TreeLaws.{is_tree, parent_at, few_groups}
use Rattle.shr_tree.proofs.tree.Tree.depth.Goals as goal

abbrev no_group : Group
no_group = record { parent = 0; limit = None; later = false }

read : (c : goal.After-as_slice) → (get_or c.as_slice.result.now c.loop-at.at no_group).parent ≡ parent_of c.args.self.now.parents c.loop-at.at
read c = ap (λ (gs : List Group). (get_or gs c.loop-at.at no_group).parent) c.as_slice.ensures ∙ parent_at c.self.inside.paths c.self.inside.groups.items c.args.self.now c.loop-at.at no_group c.self.view_is c.loop-at.invariant.there

pub overflow_add-depth : goal.overflow_add-depth
overflow_add-depth c =
    let few = few_groups c.self.inside.paths c.self.inside.groups.items c.self.inside.children.lists c.args.self.now c.self.invariant c.self.view_is in
    let deep = depth_of-le c.args.self.now.parents c.args.g in
    omega (arith, few, deep, c.loop-at.invariant.counted, c.requires)

pub loop-at-smaller : goal.loop-at-smaller
loop-at-smaller c =
    let tree = is_tree c.self.inside.paths c.self.inside.groups.items c.self.inside.children.lists c.args.self.now c.self.invariant c.self.view_is in
    let lower = tree.lower c.loop-at.at (omega arith) c.loop-at.invariant.there in
    omega (arith, lower, read c)

pub loop-at-preserved : goal.loop-at-preserved
loop-at-preserved c =
    let tree = is_tree c.self.inside.paths c.self.inside.groups.items c.self.inside.children.lists c.args.self.now c.self.invariant c.self.view_is in
    let above : 0 < c.loop-at.at = omega arith in
    let lower = tree.lower c.loop-at.at above c.loop-at.invariant.there in
    let below = depth_of-below c.args.self.now.parents tree c.loop-at.at above c.loop-at.invariant.there in
    let same = ap (depth_of c.args.self.now.parents) (read c) in
    record {
      there = omega (arith, lower, read c, c.loop-at.invariant.there);
      counted = omega (arith, below, same, c.loop-at.invariant.counted);
    }

pub returns : goal.returns
returns c =
    let zero : c.loop-at.at ≡ 0 = omega arith in
    let root = ap (depth_of c.args.self.now.parents) zero ∙ depth_of-root c.args.self.now.parents in
    omega (arith, root, c.loop-at.invariant.counted)
