-- SPDX-License-Identifier: GPL-2.0-only
use Rattle.shr_registry.proofs.Common.{[], refl, ap, subst, ◌∙◌, arith, Core, Shape, view_of, shape_of, made_from}
use Rattle.shr_base.specs.declared.replies.HalfWhy.TheVariants as why
use Rattle.shr_node.specs.Draining.{DrainIsWorn, DrainLacks, IsDrained}
use Rattle.shr_node.proofs.Draws.{worn_before, filled_before}
use Rattle.shr_registry.proofs.Empties.{none_yet, stopped, node_down}
use Rattle.shr_registry.proofs.draining.empty.Goals as goal

pub returns-in-Worn-clause-answer : goal.returns-in-Worn-clause-answer
returns-in-Worn-clause-answer g c = let core = c.args.seat.now.core in let v = view_of c.args.seat.now in let u = view_of c.loop-node.seat in let w = view_of c.drain.new.seat in let node = c.loop-node.node in let low = c.loop-node-test.true in let sizes = ap (λ (s : Shape). s.nodes) (c.shape.ensures ∙ ap shape_of c.core.ensures) in let a = subst (λ (x : Core). DrainIsWorn (shape_of x) u w c.args.id node c.args.by c.loop-node.objects.items c.drain.new.into.items c.in-Worn.spent) c.loop-node.invariant.table c.in-Worn.ensures.answer in let e = c.loop-node.invariant.sofar.emptied in
    stopped (shape_of core) v u w c.args.id node c.args.by c.args.objects.now.items c.loop-node.objects.items c.drain.new.into.items (omega (arith, low, sizes, core.limits.2)) c.loop-node.invariant.sofar a.stops.ds a.stops.draws
    a.group (why.Worn c.in-Worn.spent) (omega (arith, low, sizes)) a.stops.above (worn_before (shape_of core) v u w (made_from c.args.id 0 c.args.by e.draws) [] c.args.id node a.group c.args.by c.in-Worn.spent e.drained.gains a.worn)

pub returns-in-Memory-clause-answer : goal.returns-in-Memory-clause-answer
returns-in-Memory-clause-answer g c = let core = c.args.seat.now.core in let v = view_of c.args.seat.now in let u = view_of c.loop-node.seat in let w = view_of c.drain.new.seat in let node = c.loop-node.node in let low = c.loop-node-test.true in let sizes = ap (λ (s : Shape). s.nodes) (c.shape.ensures ∙ ap shape_of c.core.ensures) in let a = subst (λ (x : Core). DrainLacks (shape_of x) u w c.args.id node c.args.by c.loop-node.objects.items c.drain.new.into.items) c.loop-node.invariant.table c.in-Memory.ensures.answer in let e = c.loop-node.invariant.sofar.emptied in
    stopped (shape_of core) v u w c.args.id node c.args.by c.args.objects.now.items c.loop-node.objects.items c.drain.new.into.items (omega (arith, low, sizes, core.limits.2)) c.loop-node.invariant.sofar a.stops.ds a.stops.draws
    a.group why.Memory (omega (arith, low, sizes)) a.stops.above (record { old = a.old; room = a.room; filled = filled_before (shape_of core) v u w (made_from c.args.id 0 c.args.by e.draws) [] c.args.id node a.group a.old e.drained.gains a.filled })

pub loop-node-preserved : goal.loop-node-preserved
loop-node-preserved g c = let core = c.args.seat.now.core in let u = view_of c.loop-node.seat in let node = c.loop-node.node in let low = c.loop-node-test.true in let sizes = ap (λ (s : Shape). s.nodes) (c.shape.ensures ∙ ap shape_of c.core.ensures) in let a = subst (λ (x : Core). IsDrained (shape_of x) u (view_of c.drain.new.seat) c.args.id node c.args.by c.loop-node.objects.items c.drain.new.into.items) c.loop-node.invariant.table c.in-Drained.ensures.answer in record {
  table = c.in-Drained.ensures.table ∙ c.loop-node.invariant.table;
  sofar = node_down (shape_of core) (view_of c.args.seat.now) u (view_of c.drain.new.seat) c.args.id node c.args.by c.args.objects.now.items c.loop-node.objects.items c.drain.new.into.items (omega (arith, low, sizes, core.limits.2)) c.loop-node.invariant.sofar a.ds a.draws c.requires.fresh a.mark;
}

pub loop-node-init : goal.loop-node-init
loop-node-init g c = record { table = refl; sofar = none_yet (shape_of c.args.seat.now.core) (view_of c.args.seat.now) c.args.id c.args.by c.args.objects.now.items }
