-- SPDX-License-Identifier: GPL-2.0-only
use Rattle.shr_tree.proofs.Common.{◌++◌, ◌∷◌, [], List, ap, ◌∙◌, Group, IsTreeWhole}
use Rattle.shr_tree.proofs.TreeLaws.{within, whole_grown, groups_long, paths_long, holds_kept}
use Rattle.shr_tree.proofs.tree.Tree.put.Goals as goal

pub reserve-requires-2 : goal.reserve-requires-2
reserve-requires-2 c = within c.self.inside.paths c.self.inside.groups.items c.self.inside.children.lists c.args.self.now c.in_ok-parent.parent c.self.invariant c.self.view_is c.in_ok-parent.ensures.there

pub add-requires-clause-there : goal.add-requires-clause-there
add-requires-clause-there c =
    let h = within c.self.inside.paths c.self.inside.groups.items c.self.inside.children.lists c.args.self.now c.in_ok-parent.parent c.self.invariant c.self.view_is c.in_ok-parent.ensures.there in
    rw c.reserve-2.ensures.lists h

whole : (c : goal.After-add) → IsTreeWhole c.declare.new.self c.push.new.self.items c.add.new.self.lists
whole c =
    let group : Group = record { parent = c.in_ok-parent.parent; limit = c.args.limit; later = c.args.late } in
    whole_grown c.self.inside.paths c.self.inside.groups.items c.self.inside.children.lists c.reserve-2.new.self.lists c.bytes-2.result.now group c.len-group.result c.declare.new.self c.push.new.self.items c.add.new.self.lists
    c.self.invariant (groups_long c.self.inside.paths c.self.inside.groups.items c.args.self.now c.in_ok-parent.parent c.self.view_is c.in_ok-parent.ensures.there)
    (holds_kept c.self.inside.paths c.self.inside.groups.items c.args.self.now c.args.late c.in_ok-parent.parent c.self.view_is c.in_ok-parent.ensures.holds)
    (paths_long c.self.inside.paths c.self.inside.groups.items c.args.self.now c.self.view_is c.in_ok-parent.ensures.few)
    c.in_ok-declare.ensures.declared (c.push.ensures.items ∙ ap (λ (gs : List Group). gs ++ group ∷ []) c.reserve.ensures.items) c.len-group.ensures c.reserve-2.ensures.lists c.add.ensures

pub invariant_of-self-2 : goal.invariant_of-self-2
invariant_of-self-2 c = whole c

pub returns-clause-hierarchy : goal.returns-clause-hierarchy
returns-clause-hierarchy c = (whole c).hierarchy
