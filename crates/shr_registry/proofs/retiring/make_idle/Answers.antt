-- SPDX-License-Identifier: GPL-2.0-only
use Rattle.shr_registry.proofs.Common.{ap, ◌∙◌, Core, Seated, places_in, with_pool_given, only_pool, view_of, shape_of}
use Rattle.shr_registry.proofs.Endings.{rests_given}
use Rattle.shr_registry.proofs.retiring.make_idle.Goals as goal

pub returns-clause-rests : goal.returns-clause-rests
returns-clause-rests g c = let taken = ap (λ (s : Seated). s.core) c.take_pool-pool.ensures.taken in rests_given (shape_of c.args.seat.now.core) (view_of c.args.seat.now) (view_of c.take_pool-pool.new.self) (view_of c.free.new.seat) (view_of c.give_pool.new.self) c.take_pool-pool.result.entries.items c.free.new.entries.items c.args.id
    (ap view_of c.take_pool-pool.ensures.taken) c.take_pool-pool.ensures.told.known (c.free.ensures.pool ∙ ap (λ (x : Core). only_pool (shape_of x) c.free.new.entries.items) taken) c.free.ensures.longer c.free.ensures.known (ap view_of c.give_pool.ensures.given ∙ ap (λ (x : Core). with_pool_given (view_of c.free.new.seat) (places_in (shape_of x).ids)) (c.free.ensures.table ∙ taken)) c.free.ensures.rests
