-- SPDX-License-Identifier: GPL-2.0-only
use Rattle.shr_node.proofs.Common.{◌≡◌, ℕ, ◌-◌, [], length, refl, sym, ap, subst, ◌∙◌, arith, Core, View, Shape, Claims, EmptiesOne, LeavesOne, DrainWorn, IsPlaceOfShape, groups_in, view_of, shape_of, made_by_draws}
use Rattle.shr_node.specs.Draining.{LacksOne}
use Rattle.shr_node.proofs.Draws.{IsDraining, draining_none, drawing_next, drawing_stops, filled_before, worn_before}
use Rattle.shr_node.proofs.draining.drain.Goals as goal

pub draining-init : goal.draining-init
draining-init g c = let shape : Shape = shape_of c.args.seat.now.core in let v : View = view_of c.args.seat.now in let e : c.len-group.result ≡ groups_in shape = c.len-group.ensures ∙ ap (λ (s : Shape). length s.parents.items) (c.shape.ensures ∙ ap shape_of c.core.ensures) in record {
  table = refl;
  there = omega (arith, e);
  draws = subst (λ (n : ℕ). IsDraining shape v v c.args.lists.id c.args.lists.node c.args.by c.args.into.now.items c.args.into.now.items n) (sym e) (draining_none shape v c.args.lists.id c.args.lists.node c.args.by c.args.into.now.items);
}

pub draining-preserved : goal.draining-preserved
draining-preserved g c = let core = c.args.seat.now.core in let shape : Shape = shape_of core in let v : View = view_of c.args.seat.now in let u : View = view_of c.draining.seat in let w : View = view_of c.drain_one.new.seat in let group : ℕ = c.draining.group - 1 in
    let inv = c.draining.invariant in let o = inv.draws in let there = inv.there in let test = c.draining-test.true in let nodes = core.limits.2 in let groups = core.limits.4 in let node = c.requires.place.1 in let answer = subst (λ (x : Core). EmptiesOne (shape_of x) u w (record { id = c.args.lists.id; node = c.args.lists.node; group = group }) c.args.by c.draining.into.items c.drain_one.new.into.items) inv.table c.in-Drained.ensures.answer in record {
      table = c.drain_one.ensures.table ∙ inv.table;
      there = omega (arith, there);
      draws = drawing_next shape v u w c.args.lists.id c.args.lists.node c.args.by c.args.into.now.items c.draining.into.items c.drain_one.new.into.items c.draining.group o group (omega (arith, test)) (omega (arith, node, nodes, there, groups)) (omega (arith, node, nodes, there, groups)) (omega (arith, node, nodes, there, groups))
          (ap (λ (x : Claims). x.quiet) o.draws.gains.claims ∙ c.requires.quiet) (ap (λ (x : Claims). x.owner) o.draws.gains.claims ∙ c.requires.owns) answer.marks (omega (arith, test)) answer.drawn;
    }

pub returns-in-Worn-clause-answer : goal.returns-in-Worn-clause-answer
returns-in-Worn-clause-answer g c = let shape : Shape = shape_of c.args.seat.now.core in let v : View = view_of c.args.seat.now in let u : View = view_of c.draining.seat in let w : View = view_of c.drain_one.new.seat in let group : ℕ = c.draining.group - 1 in
    let o = c.draining.invariant.draws in let test = c.draining-test.true in let a = subst (λ (x : Core). LeavesOne (shape_of x) u w (record { id = c.args.lists.id; node = c.args.lists.node; group = group }) c.draining.into.items c.drain_one.new.into.items × DrainWorn (shape_of x) u w c.args.lists.id c.args.lists.node group c.args.by c.in-Worn.spent) c.draining.invariant.table c.in-Worn.ensures.answer in record {
      group = group;
      stops = drawing_stops shape v u w c.args.lists.id c.args.lists.node c.args.by c.args.into.now.items c.draining.into.items c.drain_one.new.into.items c.draining.group o group (omega (arith, test)) a.0.none a.0.marks;
      worn = worn_before shape v u w (made_by_draws c.args.lists.id c.args.lists.node c.args.by o.ds) [] c.args.lists.id c.args.lists.node group c.args.by c.in-Worn.spent o.draws.gains a.1;
    }

pub returns-in-Memory-clause-answer : goal.returns-in-Memory-clause-answer
returns-in-Memory-clause-answer g c = let shape : Shape = shape_of c.args.seat.now.core in let v : View = view_of c.args.seat.now in let u : View = view_of c.draining.seat in let w : View = view_of c.drain_one.new.seat in let group : ℕ = c.draining.group - 1 in
    let o = c.draining.invariant.draws in let test = c.draining-test.true in let a = subst (λ (x : Core). LacksOne (shape_of x) u w (record { id = c.args.lists.id; node = c.args.lists.node; group = group }) c.args.by c.draining.into.items c.drain_one.new.into.items) c.draining.invariant.table c.in-Memory.ensures.answer in record {
      group = group;
      old = a.old;
      room = a.room;
      stops = drawing_stops shape v u w c.args.lists.id c.args.lists.node c.args.by c.args.into.now.items c.draining.into.items c.drain_one.new.into.items c.draining.group o group (omega (arith, test)) a.none a.marks;
      filled = filled_before shape v u w (made_by_draws c.args.lists.id c.args.lists.node c.args.by o.ds) [] c.args.lists.id c.args.lists.node group a.old o.draws.gains a.filled;
    }

pub returns-clause-answer : goal.returns-clause-answer
returns-clause-answer g c = let test = c.draining-test.false in let o = c.draining.invariant.draws in record { ds = o.ds; draws = o.draws; mark = λ h. let low = o.mark h in omega (arith, low, test) }

pub drain_one-requires-clause-place : goal.drain_one-requires-clause-place
drain_one-requires-clause-place g c = let there = c.draining.invariant.there in let test = c.draining-test.true in
    subst (λ (x : Core). IsPlaceOfShape (shape_of x) (record { id = c.args.lists.id; node = c.args.lists.node; group = c.draining.group - 1 })) (sym c.draining.invariant.table) (record { id = c.requires.place.0; node = c.requires.place.1; group = omega (arith, there, test) })
