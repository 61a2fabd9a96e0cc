-- SPDX-License-Identifier: GPL-2.0-only
use Rattle.shr_offline.proofs.Common.{◌/◌, ◌%◌, ◌<◌, ap, sym, subst, ◌∙◌, arith, Shape, Claims, view_of, shape_of, IsSpliced}
use Rattle.shr_core.specs.declared.table.Core.{Core}
use Rattle.shr_node.specs.Splicing.{AreChildren}
use Rattle.shr_seats.specs.Shapes.{groups_in}
use Rattle.shr_offline.proofs.SplicesLaws.{next_place, few_moved}
use Rattle.shr_offline.proofs.splicing.splice_all.Goals as goal

pub overflow_add-moved : goal.overflow_add-moved
overflow_add-moved g c = let few = few_moved _ _ _ _ _ _ _ c.in-Spliced.ensures.answer in let same = ap (λ (k : Core). (shape_of k).most_items) c.loop-place.invariant.table in let most = c.requires.most_items in let so-far = c.loop-place.invariant.few in omega (arith, few, same, most, so-far)

pub splice_below-requires-clause-group : goal.splice_below-requires-clause-group
splice_below-requires-clause-group g c = (c.requires.group.0, subst (λ (k : Core). c.args.group < groups_in (shape_of k)) (sym c.loop-place.invariant.table) c.requires.group.1)

pub splice_below-requires-clause-children : goal.splice_below-requires-clause-children
splice_below-requires-clause-children g c = subst (λ (k : Core). AreChildren (shape_of k).parents.items c.args.group c.children_of-children.result) (c.core-core.ensures ∙ sym c.loop-place.invariant.table) c.children_of-children.ensures.children

pub loop-place-preserved : goal.loop-place-preserved
loop-place-preserved g c = let inv = c.loop-place.invariant in let shape = shape_of c.args.seat.now.core in let same = c.shape-shape.ensures ∙ ap shape_of c.core-core.ensures in
    let is = subst (λ (z : Shape). IsSpliced z (view_of c.loop-place.seat) (view_of c.splice_below.new.seat) (c.loop-place.place / shape.nodes) (c.loop-place.place % shape.nodes) c.args.group c.in-Spliced.more) (ap shape_of inv.table)
    (subst (λ (z : Shape). IsSpliced (shape_of c.loop-place.seat.core) (view_of c.loop-place.seat) (view_of c.splice_below.new.seat) (c.loop-place.place / z.nodes) (c.loop-place.place % z.nodes) c.args.group c.in-Spliced.more) same c.in-Spliced.ensures.answer) in
    let gains = is.closings.gains in let few = few_moved _ _ _ _ _ _ _ is in let most = c.requires.most_items in record {
      table = c.in-Spliced.ensures.table ∙ inv.table;
      rooms = gains.holding ∙ inv.rooms;
      owner = ap (λ (x : Claims). x.owner) (gains.marks inv.owner) ∙ inv.owner;
      few = let so-far = inv.few in omega (arith, few, most, so-far);
      spliced = next_place shape c.args.group c.loop-place.place c.loop-place.moved c.in-Spliced.more (view_of c.args.seat.now) (view_of c.loop-place.seat) (view_of c.splice_below.new.seat) inv.spliced is;
    }
