-- SPDX-License-Identifier: GPL-2.0-only
use Rattle.shr_registry.proofs.Common.{ap, subst, ◌∙◌, begins_more, Core, Seated, places_in, with_pool_given, only_pool, view_of, shape_of, RetireGives}
use Rattle.shr_registry.proofs.Givings.{retire_given}
use Rattle.shr_registry.proofs.retiring.retire.Goals as goal

pub returns-clause-answer : goal.returns-clause-answer
returns-clause-answer g c = let v = view_of c.args.seat.now in let old = c.take_pool-pool.result.entries.items in let new = c.end-answer.new.entries.items in
    let taken = ap (λ (s : Seated). s.core) c.take_pool-pool.ensures.taken in let u = view_of c.take_pool-pool.new.self in let w = view_of c.end-answer.new.seat in
    retire_given c.args.seat.now.core.setting v (view_of c.take_pool-pool.new.self) (view_of c.end-answer.new.seat) old new (ap view_of c.take_pool-pool.ensures.taken) (begins_more v.turns.known old new c.take_pool-pool.ensures.told.known c.end-answer.ensures.longer)
    (c.end-answer.ensures.pool ∙ ap (λ (x : Core). only_pool (shape_of x) new) taken) c.end-answer.ensures.known c.args.decl c.end-answer.result (view_of c.give_pool.new.self) (ap view_of c.give_pool.ensures.given ∙ ap (λ (x : Core). with_pool_given w (places_in (shape_of x).ids)) (c.end-answer.ensures.table ∙ taken)) (subst (λ (x : Core). RetireGives (shape_of x) u c.args.decl new 0 c.end-answer.result w) taken c.end-answer.ensures.answer)
