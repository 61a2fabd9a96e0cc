-- SPDX-License-Identifier: GPL-2.0-only
use Rattle.shr_node.proofs.Common.{◌≡◌, ℕ, false, true, List, [], length, get_or, replicate, refl, sym, ap, subst, ◌∙◌, arith, length-replicate, length-set, parent_of, Core, Shape, IsPlaceOfShape, group_place, groups_in, view_of, shape_of}
use Rattle.shr_node.proofs.Gaining.{gains_none, gains_then}
use Rattle.shr_node.proofs.Looks.{first_is, left_first, looked_first, own_next, looked_next, left_next, looked_past, left_past}
use Rattle.shr_node.proofs.splicing.open_lists.Goals as goal

pub loop-at-init : goal.loop-at-init
loop-at-init g c = let shape : Shape = shape_of c.args.seat.now.core in let few = c.args.seat.now.core.limits.4 in let there = c.requires.group in record {
  table = refl;
  gains = gains_none (view_of c.args.seat.now);
  long = length-set (replicate 256 false) c.args.group true ∙ length-replicate 256 false;
  own = first_is shape c.args.seat.now.core.tree c.args.id c.args.node c.args.group 256 (omega (arith, few, there));
  looked = looked_first shape c.args.seat.now.core.tree c.args.id c.args.node c.args.group 256 (omega (arith, few, there)) (view_of c.args.seat.now) there;
  left = left_first shape c.args.seat.now.core.tree c.args.id c.args.node c.args.group 256 (omega (arith, few, there));
}

pub loop-at-preserved-then-not-opens-parents : goal.loop-at-preserved-then-not-opens-parents
loop-at-preserved-then-not-opens-parents g c = let core = c.args.seat.now.core in let shape : Shape = shape_of core in let inv = c.loop-at.invariant in let at : ℕ = c.loop-at.at in
    let is : c.as_slice-parents.result.now ≡ shape.parents.items = c.as_slice-parents.ensures ∙ ap (λ (s : Shape). s.parents.items) (c.shape.ensures ∙ ap shape_of c.core.ensures) in
    let far : length c.as_slice-parents.result.now ≡ groups_in shape = ap (λ (ps : List ℕ). length ps) is in
    let few = core.limits.4 in let test = c.loop-at-test.true in let low = c.loop-at.auto.at in let own = inv.long in
    let up : get_or c.loop-at.opens (parent_of shape.parents.items at) false ≡ false = subst (λ (ps : List ℕ). get_or c.loop-at.opens (parent_of ps at) false ≡ false) is c.if-not-opens-parents.true in record {
      table = inv.table;
      gains = inv.gains;
      long = inv.long;
      own = inv.own;
      looked = looked_past shape core.tree c.args.id c.args.node c.args.group (view_of c.loop-at.seat) (view_of c.loop-at.seat) c.loop-at.opens at inv.looked (omega (arith, low)) (omega (arith, test, far)) (omega (arith, test, far, few, own)) inv.left up;
      left = left_past shape core.tree c.args.id c.args.node c.args.group (view_of c.loop-at.seat) (view_of c.loop-at.seat) c.loop-at.opens at inv.looked (omega (arith, low)) (omega (arith, test, far)) (omega (arith, test, far, few, own)) inv.left;
    }

pub loop-at-preserved : goal.loop-at-preserved
loop-at-preserved g c = let core = c.args.seat.now.core in let shape : Shape = shape_of core in let inv = c.loop-at.invariant in let at : ℕ = c.loop-at.at in
    let is : c.as_slice-parents.result.now ≡ shape.parents.items = c.as_slice-parents.ensures ∙ ap (λ (s : Shape). s.parents.items) (c.shape.ensures ∙ ap shape_of c.core.ensures) in
    let far : length c.as_slice-parents.result.now ≡ groups_in shape = ap (λ (ps : List ℕ). length ps) is in
    let few = core.limits.4 in let test = c.loop-at-test.true in let low = c.loop-at.auto.at in let own = inv.long in let did = c.is_open.ensures in
    let up : get_or c.loop-at.opens (parent_of shape.parents.items at) false ≡ true = subst (λ (ps : List ℕ). get_or c.loop-at.opens (parent_of ps at) false ≡ true) is c.if-not-opens-parents.false in record {
      table = did.table ∙ inv.table;
      gains = gains_then (view_of c.args.seat.now) (view_of c.loop-at.seat) (view_of c.is_open.new.seat) [] [] [] [] inv.gains did.gains;
      long = length-set c.loop-at.opens at _ ∙ inv.long;
      own = own_next shape core.tree c.args.id c.args.node c.args.group (view_of c.loop-at.seat) (view_of c.is_open.new.seat) c.loop-at.opens at inv.looked (omega (arith, low)) (omega (arith, test, far)) (omega (arith, test, far, few, own)) inv.left c.is_open.result inv.own;
      looked = looked_next shape core.tree c.args.id c.args.node c.args.group (view_of c.loop-at.seat) (view_of c.is_open.new.seat) c.loop-at.opens at inv.looked (omega (arith, low)) (omega (arith, test, far)) (omega (arith, test, far, few, own)) inv.left c.is_open.result did.gains up did.closed;
      left = left_next shape core.tree c.args.id c.args.node c.args.group (view_of c.loop-at.seat) (view_of c.is_open.new.seat) c.loop-at.opens at inv.looked (omega (arith, low)) (omega (arith, test, far)) (omega (arith, test, far, few, own)) inv.left c.is_open.result;
    }

pub is_open-requires-clause-place : goal.is_open-requires-clause-place
is_open-requires-clause-place g c = let test = c.loop-at-test.true in
    let far : length c.as_slice-parents.result.now ≡ groups_in (shape_of c.args.seat.now.core) = ap (λ (ps : List ℕ). length ps) (c.as_slice-parents.ensures ∙ ap (λ (s : Shape). s.parents.items) (c.shape.ensures ∙ ap shape_of c.core.ensures)) in
    subst (λ (x : Core). IsPlaceOfShape (shape_of x) (group_place c.args.id c.args.node c.loop-at.at)) (sym c.loop-at.invariant.table) (record { id = c.requires.place.0; node = c.requires.place.1; group = omega (arith, test, far) })
