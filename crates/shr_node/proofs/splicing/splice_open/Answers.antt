-- SPDX-License-Identifier: GPL-2.0-only
use Rattle.shr_node.proofs.Common.{◌≡◌, ℕ, true, ◌-◌, ◌<◌, [], length, sym, ap, subst, ◌∙◌, arith, is_child, place_number, group_place, Core, View, Shape, KnowsClosed, groups_in, view_of, shape_of, made_by_closing, bits_by}
use Rattle.shr_node.specs.Closes.{ClosesOne, LeavesWorn, LeavesFree}
use Rattle.shr_node.proofs.Looks.{looked_still}
use Rattle.shr_node.proofs.Splices.{IsSplicing, splicing_none, children_closed, splicing_stops, worn_before, free_before, splicing_skips, splicing_was, splicing_one}
use Rattle.shr_node.proofs.splicing.splice_open.Goals as goal

pub splicing-init : goal.splicing-init
splicing-init g c = let shape : Shape = shape_of c.args.seat.now.core in let v : View = view_of c.args.seat.now in let u : View = view_of c.open_lists-opens.new.seat in let e : c.len-at.result ≡ groups_in shape = c.len-at.ensures ∙ ap (λ (s : Shape). length s.parents.items) (c.shape.ensures ∙ ap shape_of (c.core.ensures ∙ c.open_lists-opens.ensures.table)) in let there = c.requires.group.1 in record {
  table = c.open_lists-opens.ensures.table;
  there = omega (arith, e);
  above = omega (arith, e, there);
  looked = c.open_lists-opens.ensures.looked;
  splices = subst (λ (n : ℕ). IsSplicing shape v u c.args.id c.args.node c.args.group c.open_lists-opens.result n 0) (sym e) (splicing_none shape v u c.args.id c.args.node c.args.group c.open_lists-opens.result c.requires.group.1 c.open_lists-opens.ensures.gains);
}

pub splicing-preserved-then-not-opens-at : goal.splicing-preserved-then-not-opens-at
splicing-preserved-then-not-opens-at g c = let core = c.args.seat.now.core in let shape : Shape = shape_of core in let v : View = view_of c.args.seat.now in let u : View = view_of c.splicing.seat in let at : ℕ = c.splicing.at - 1 in let inv = c.splicing.invariant in let there = inv.there in let high = inv.above in let test = c.splicing-test.true in record {
  table = inv.table;
  there = omega (arith, there);
  above = omega (arith, high, test);
  looked = inv.looked;
  splices = splicing_skips shape core.tree v u u c.args.id c.args.node c.args.group c.open_lists-opens.result c.splicing.at c.splicing.moved inv.splices inv.looked at (omega (arith, test)) (omega (arith, high, test)) c.open_lists-opens.ensures.own c.if-not-opens-at.true;
}

pub close_one-requires-clause-place : goal.close_one-requires-clause-place
close_one-requires-clause-place g c = subst (λ (x : Core). (c.args.id < (shape_of x).ids) × (c.args.node < (shape_of x).nodes)) (sym c.splicing.invariant.table) c.requires.place

pub close_one-requires-clause-group : goal.close_one-requires-clause-group
close_one-requires-clause-group g c = let there = c.splicing.invariant.there in let high = c.splicing.invariant.above in let test = c.splicing-test.true in let low = c.requires.group.0 in
    subst (λ (x : Core). (0 < c.splicing.at - 1) × (c.splicing.at - 1 < groups_in (shape_of x))) (sym c.splicing.invariant.table) (omega (arith, test, low), omega (arith, there, test))

pub close_one-requires-clause-children : goal.close_one-requires-clause-children
close_one-requires-clause-children g c = let core = c.args.seat.now.core in let shape : Shape = shape_of core in let v : View = view_of c.args.seat.now in let u : View = view_of c.splicing.seat in let at : ℕ = c.splicing.at - 1 in let inv = c.splicing.invariant in let test = c.splicing-test.true in
    subst (λ (x : Core). (child : ℕ) → is_child (shape_of x).parents.items at child ≡ true → KnowsClosed u (place_number (group_place c.args.id c.args.node child))) (sym inv.table)
    (children_closed shape core.tree v u u c.args.id c.args.node c.args.group c.open_lists-opens.result c.splicing.at c.splicing.moved inv.splices inv.looked at (omega (arith, test)) c.if-not-opens-at.false)

pub splicing-preserved-in-Closed : goal.splicing-preserved-in-Closed
splicing-preserved-in-Closed g c = let core = c.args.seat.now.core in let shape : Shape = shape_of core in let v : View = view_of c.args.seat.now in let u : View = view_of c.splicing.seat in let at : ℕ = c.splicing.at - 1 in let inv = c.splicing.invariant in let there = inv.there in let high = inv.above in let test = c.splicing-test.true in let w : View = view_of c.close_one.new.seat in let a = subst (λ (x : Core). ClosesOne (shape_of x) u w c.args.id c.args.node at c.in-Closed.objects) inv.table c.in-Closed.ensures.answer in
    let below = inv.looked.below at (omega (arith, there, test)) c.if-not-opens-at.false in record {
      table = c.close_one.ensures.table ∙ inv.table;
      there = omega (arith, there);
      above = omega (arith, high, test);
      looked = looked_still shape core.tree c.args.id c.args.node c.args.group u w (made_by_closing shape.parents.items c.args.id c.args.node a.closing) (bits_by shape.parents.items c.args.id c.args.node a.closing) c.open_lists-opens.result (groups_in shape) a.gains inv.looked;
      splices = splicing_one shape core.tree v u w c.args.id c.args.node c.args.group c.open_lists-opens.result c.splicing.at c.splicing.moved inv.splices inv.looked at a.closing c.in-Closed.objects (omega (arith, test)) (omega (arith, high, test)) below a.here a.count a.is a.gains a.known;
    }

pub splicing-preserved : goal.splicing-preserved
splicing-preserved g c = let core = c.args.seat.now.core in let shape : Shape = shape_of core in let v : View = view_of c.args.seat.now in let u : View = view_of c.splicing.seat in let at : ℕ = c.splicing.at - 1 in let inv = c.splicing.invariant in let there = inv.there in let high = inv.above in let test = c.splicing-test.true in let w : View = view_of c.close_one.new.seat in let a = c.in-WasClosed.ensures.answer in record {
  table = c.close_one.ensures.table ∙ inv.table;
  there = omega (arith, there);
  above = omega (arith, high, test);
  looked = looked_still shape core.tree c.args.id c.args.node c.args.group u w [] [] c.open_lists-opens.result (groups_in shape) a.gains inv.looked;
  splices = splicing_was shape core.tree v u w c.args.id c.args.node c.args.group c.open_lists-opens.result c.splicing.at c.splicing.moved inv.splices inv.looked at (omega (arith, test)) (omega (arith, high, test)) a.gains a.known;
}

pub returns-in-Worn-clause-answer : goal.returns-in-Worn-clause-answer
returns-in-Worn-clause-answer g c = let core = c.args.seat.now.core in let shape : Shape = shape_of core in let v : View = view_of c.args.seat.now in let u : View = view_of c.splicing.seat in let w : View = view_of c.close_one.new.seat in let at : ℕ = c.splicing.at - 1 in let inv = c.splicing.invariant in let there = inv.there in let test = c.splicing-test.true in let a = subst (λ (x : Core). LeavesWorn (shape_of x) u w c.args.id c.args.node at c.in-Worn.spent) inv.table c.in-Worn.ensures.answer in record {
  child = at;
  stops = splicing_stops shape core.tree v u w c.args.id c.args.node c.args.group c.open_lists-opens.result c.splicing.at c.splicing.moved inv.splices inv.looked at (omega (arith, test)) (omega (arith, there, test)) (inv.looked.below at (omega (arith, there, test)) c.if-not-opens-at.false) a.gains;
  worn = worn_before shape core.tree v u w c.args.id c.args.node c.args.group c.open_lists-opens.result c.splicing.at c.splicing.moved inv.splices inv.looked c.in-Worn.spent at a.worn;
}

pub returns-in-Memory-clause-answer : goal.returns-in-Memory-clause-answer
returns-in-Memory-clause-answer g c = let core = c.args.seat.now.core in let shape : Shape = shape_of core in let v : View = view_of c.args.seat.now in let u : View = view_of c.splicing.seat in let w : View = view_of c.close_one.new.seat in let at : ℕ = c.splicing.at - 1 in let inv = c.splicing.invariant in let there = inv.there in let test = c.splicing-test.true in let a = subst (λ (x : Core). LeavesFree (shape_of x) u w c.args.id c.args.node at) inv.table c.in-Memory.ensures.answer in record {
  child = at;
  stops = splicing_stops shape core.tree v u w c.args.id c.args.node c.args.group c.open_lists-opens.result c.splicing.at c.splicing.moved inv.splices inv.looked at (omega (arith, test)) (omega (arith, there, test)) (inv.looked.below at (omega (arith, there, test)) c.if-not-opens-at.false) a.gains;
  free = free_before shape core.tree v u w c.args.id c.args.node c.args.group c.open_lists-opens.result c.splicing.at c.splicing.moved inv.splices inv.looked at a.free;
}

pub returns-clause-answer : goal.returns-clause-answer
returns-clause-answer g c = let o = c.splicing.invariant.splices in let test = c.splicing-test.false in let own = o.closed c.args.group (omega (arith, test)) c.requires.group.1 c.open_lists-opens.ensures.own in record {
  cs = o.cs;
  closings = o.closings;
  moved_is = o.moved_is (omega (arith, test));
  own = own;
  closed = λ child there below. (c.args.group, below, own);
}
