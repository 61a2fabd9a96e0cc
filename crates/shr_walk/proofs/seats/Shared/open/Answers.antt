-- SPDX-License-Identifier: GPL-2.0-only
use Rattle.shr_walk.proofs.Common.{◌<◌, sym, ap, subst, ◌∙◌, Sizes, groups_of, ChargeSeated}
use Rattle.shr_walk.proofs.Opened.{is_shape, has_limits, has_root}
use Rattle.shr_walk.proofs.seats.Shared.open.Goals as goal

pub new-requires : goal.new-requires
new-requires c = let made = c.in_ok-tree.ensures ∙ ap groups_of c.as_slice.ensures in let shape = c.in_ok-shape.shape in
    let legal = is_shape c.args.script c.in_ok-tree.tree shape c.requires made c.in_ok-shape.ensures in
    subst (λ (z : Sizes). (0 < z.ids) × (0 < z.nodes) × (0 < z.groups)) (sym c.sizes.ensures) (legal.some_ids, legal.some_nodes, has_root c.args.script c.in_ok-tree.tree shape made c.in_ok-shape.ensures)

pub new-requires-2 : goal.new-requires-2
new-requires-2 c = let made = c.in_ok-tree.ensures ∙ ap groups_of c.as_slice.ensures in
    record { shape = has_limits c.args.script c.in_ok-tree.tree c.in_ok-shape.shape c.requires made c.in_ok-shape.ensures }

pub new-requires-3 : goal.new-requires-3
new-requires-3 c = let made = c.in_ok-tree.ensures ∙ ap groups_of c.as_slice.ensures in
    record { shape = is_shape c.args.script c.in_ok-tree.tree c.in_ok-shape_of.field-0 c.requires made c.in_ok-shape_of.ensures }

pub returns-clause-opened : goal.returns-clause-opened
returns-clause-opened c = let core = c.in_ok-core.ensures in let charge = c.in_ok-charge.ensures in let deferred = c.in_ok-deferred.ensures in record {
  first = record { core = core.first; charge = charge.first; deferred = deferred.first };
  core = core.view;
  uses = ap (λ (z : ChargeSeated). z.uses) charge.opener;
  tree = ap (λ (z : ChargeSeated). z.tree) charge.opener;
  charged = ap (λ (z : ChargeSeated). z.standing) charge.opener;
  deferred = deferred.view;
}
