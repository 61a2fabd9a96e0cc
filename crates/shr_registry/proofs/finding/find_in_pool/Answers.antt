-- SPDX-License-Identifier: GPL-2.0-only
use Rattle.shr_registry.proofs.Common.{List, ap, subst, sym, ◌∙◌, PoolEntry, Core, Seated, View, IsMet, phase_of, places_in, with_pool_given, view_of, shape_of, pool_of, FindAnswer, FindGives, IsDatedBy}
use Rattle.shr_registry.proofs.Adds.{journal}
use Rattle.shr_registry.proofs.Agains.{met_by}
use Rattle.shr_registry.proofs.Givings.{find_given, find_dated, taken_pool}
use Rattle.shr_registry.proofs.finding.find_in_pool.Goals as goal

pub remember-requires : goal.remember-requires
remember-requires g c = record {
  met = λ id number entry is. let shape = shape_of c.args.seat.now.core in let v = view_of c.args.seat.now in let u = view_of c.take_pool-pool.new.self in let w = view_of c.meet-met.new.seat in let old = c.take_pool-pool.result.entries.items in
      let taken = ap (λ (s : Seated). s.core) c.take_pool-pool.ensures.taken in let table = c.meet-met.ensures.table ∙ taken in
      let given = ap view_of c.give_pool.ensures.given ∙ ap (λ (x : Core). with_pool_given w (places_in (shape_of x).ids)) table in
      let alone = taken_pool shape v u old c.requires.rooms (ap view_of c.take_pool-pool.ensures.taken) in
      let known = ap (λ (x : View). x.turns.known) given ∙ (journal shape w old (c.meet-met.ensures.holding ∙ alone) ∙ sym (journal shape u old alone)) in
      let answer = subst (λ (x : Core). FindGives (shape_of x) u c.args.decl (pool_of (shape_of x) u) 0 c.meet-met.result.answer w) taken c.meet-met.ensures.answer in
      let phase = c.meet-met.ensures.phase id number entry is ∙ ap (λ (x : Core). phase_of id (pool_of (shape_of x) u)) taken in
      subst (λ (x : Core). IsMet (shape_of x) (view_of c.give_pool.new.self).turns.known (record { decl = c.args.decl; id = id; phase = c.meet-met.result.phase; entry = entry })) (sym (ap (λ (s : Seated). s.core) c.give_pool.ensures.given ∙ table))
      (subst (λ (l : List PoolEntry). IsMet shape l (record { decl = c.args.decl; id = id; phase = c.meet-met.result.phase; entry = entry })) (sym known)
      (met_by shape u w (pool_of shape u) c.args.decl 0 id number entry c.meet-met.result.phase c.meet-met.result.answer answer is phase));
}

pub returns-clause-answer : goal.returns-clause-answer
returns-clause-answer g c = let shape = shape_of c.args.seat.now.core in let v = view_of c.args.seat.now in let u = view_of c.take_pool-pool.new.self in let w = view_of c.meet-met.new.seat in let old = c.take_pool-pool.result.entries.items in let z = view_of c.remember.new.seat in
    let taken = ap (λ (s : Seated). s.core) c.take_pool-pool.ensures.taken in
    let given = ap view_of c.give_pool.ensures.given ∙ ap (λ (x : Core). with_pool_given w (places_in (shape_of x).ids)) (c.meet-met.ensures.table ∙ taken) in
    let alone = taken_pool shape v u old c.requires.rooms (ap view_of c.take_pool-pool.ensures.taken) in
    let answer = subst (λ (x : Core). FindGives (shape_of x) u c.args.decl (pool_of (shape_of x) u) 0 c.meet-met.result.answer w) taken c.meet-met.ensures.answer in
    subst (λ (a : FindAnswer). FindGives shape v c.args.decl z.turns.known 1 a z) (sym c.remember.ensures.answer)
    (find_given c.args.seat.now.core.setting v u w old old (ap view_of c.take_pool-pool.ensures.taken) c.take_pool-pool.ensures.told.known (c.meet-met.ensures.holding ∙ alone) c.meet-met.ensures.known c.args.decl c.meet-met.result.answer z (ap view_of c.remember.ensures.same ∙ given)
    (subst (λ (l : List PoolEntry). FindGives shape u c.args.decl l 0 c.meet-met.result.answer w) (journal shape u old alone) answer))

pub returns-clause-dated : goal.returns-clause-dated
returns-clause-dated g c = let shape = shape_of c.args.seat.now.core in let v = view_of c.args.seat.now in let u = view_of c.take_pool-pool.new.self in let w = view_of c.meet-met.new.seat in let old = c.take_pool-pool.result.entries.items in let z = view_of c.remember.new.seat in
    let taken = ap (λ (s : Seated). s.core) c.take_pool-pool.ensures.taken in
    let given = ap view_of c.give_pool.ensures.given ∙ ap (λ (x : Core). with_pool_given w (places_in (shape_of x).ids)) (c.meet-met.ensures.table ∙ taken) in
    let alone = taken_pool shape v u old c.requires.rooms (ap view_of c.take_pool-pool.ensures.taken) in
    let answer = subst (λ (x : Core). FindGives (shape_of x) u c.args.decl (pool_of (shape_of x) u) 0 c.meet-met.result.answer w) taken c.meet-met.ensures.answer in
    subst (λ (a : FindAnswer). IsDatedBy a z) (sym c.remember.ensures.answer)
    (find_dated c.args.seat.now.core.setting v u w old old (ap view_of c.take_pool-pool.ensures.taken) c.take_pool-pool.ensures.told.known (c.meet-met.ensures.holding ∙ alone) c.meet-met.ensures.known c.args.decl c.meet-met.result.answer z (ap view_of c.remember.ensures.same ∙ given)
    (subst (λ (l : List PoolEntry). FindGives shape u c.args.decl l 0 c.meet-met.result.answer w) (journal shape u old alone) answer))
