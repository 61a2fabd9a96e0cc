-- SPDX-License-Identifier: GPL-2.0-only
use Rattle.shr_registry.proofs.Common.{sym, ap, subst, ◌∙◌, arith, Core, Seated, Shape, IsOfPool, view_of, shape_of, pool_of}
use Rattle.shr_registry.proofs.Searches.{shown_phase, free_here, free_next, free_none, more_loaded}
use Rattle.shr_registry.proofs.searching.free_id.Goals as goal

pub returns-then-can_register-clause-loads : goal.returns-then-can_register-clause-loads
returns-then-can_register-clause-loads c = more_loaded (view_of c.args.seat.now) (view_of c.loop-id.seat) (view_of c.word_of-word.new.self) c.loop-id.id c.word_of-word.result c.loop-id.invariant.loads (ap view_of c.word_of-word.ensures.loaded)

pub returns-then-can_register-clause-lowest : goal.returns-then-can_register-clause-lowest
returns-then-can_register-clause-lowest c = let shape = shape_of c.args.seat.now.core in let v = view_of c.args.seat.now in let u = view_of c.loop-id.seat in let w = c.word_of-word in let a = c.loop-id.invariant.loads in
    sym (c.loop-id.invariant.rest ∙ free_here shape.ids c.loop-id.id (pool_of shape v) w.result (omega (arith, c.loop-id-test.true, ap (λ (s : Shape). s.ids) (c.shape.ensures ∙ ap shape_of c.core.ensures))) (shown_phase c.args.seat.now.core.setting v u c.loop-id.id w.result a c.requires.pool (subst (λ (x : Core). IsOfPool x.setting u c.loop-id.id w.result) c.loop-id.invariant.table w.ensures.of_pool)) (sym c.can_register.ensures ∙ c.if-can_register.true))

pub returns-clause-lowest : goal.returns-clause-lowest
returns-clause-lowest c = let shape = shape_of c.args.seat.now.core in let v = view_of c.args.seat.now in
    sym (c.loop-id.invariant.rest ∙ free_none shape.ids c.loop-id.id (pool_of shape v) (omega (arith, c.loop-id-test.false, ap (λ (s : Shape). s.ids) (c.shape.ensures ∙ ap shape_of c.core.ensures))))

pub loop-id-preserved : goal.loop-id-preserved
loop-id-preserved c = let shape = shape_of c.args.seat.now.core in let v = view_of c.args.seat.now in let u = view_of c.loop-id.seat in let w = c.word_of-word in let a = c.loop-id.invariant.loads in record {
  table = ap (λ (s : Seated). s.core) w.ensures.loaded ∙ c.loop-id.invariant.table;
  loads = more_loaded v u (view_of w.new.self) c.loop-id.id w.result a (ap view_of w.ensures.loaded);
  rest = c.loop-id.invariant.rest ∙ free_next shape.ids c.loop-id.id (pool_of shape v) w.result (omega (arith, c.loop-id-test.true, ap (λ (s : Shape). s.ids) (c.shape.ensures ∙ ap shape_of c.core.ensures))) (shown_phase c.args.seat.now.core.setting v u c.loop-id.id w.result a c.requires.pool (subst (λ (x : Core). IsOfPool x.setting u c.loop-id.id w.result) c.loop-id.invariant.table w.ensures.of_pool)) (sym c.can_register.ensures ∙ c.if-can_register.false);
}
