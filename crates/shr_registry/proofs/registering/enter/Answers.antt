-- SPDX-License-Identifier: GPL-2.0-only
use Rattle.shr_registry.proofs.Common.{RegisterLacksMemory, ◌≡◌, List, ◌++◌, ◌∷◌, [], sym, ap, ◌∙◌, arith, subst, PoolEntry, Registered, lowest_idle, pool_of, view_of, shape_of, Core, MayPhase, Raises, Shape, only_pool}
use Rattle.shr_registry.proofs.Registers.{dying_most, registered_before, registered_hand, registered_now, both, has_still, not_live, lowest, may_step, none_left, no_memory, lowest_none}
use Rattle.shr_registry.proofs.registering.enter.Goals as goal

pub returns-in-Some-clause-answer : goal.returns-in-Some-clause-answer
returns-in-Some-clause-answer c = registered_before c.args.seat.now.core.setting (view_of c.args.seat.now) (view_of c.live_id.new.seat) c.args.entries.now.items c.in-Some.ensures.loads c.requires.pool c.requires.free c.args.decl c.in-Some._live _ c.in-Some.ensures.found c.len-entry.ensures

pub phase-word-requires : goal.phase-word-requires
phase-word-requires c = record {
  may = subst (λ (x : Core). MayPhase (shape_of x) (view_of c.free_id.new.seat) c.in-Some-free_id.id c.args.decl) (sym (c.free_id.ensures.table ∙ c.live_id.ensures.table))
      (may_step (shape_of c.args.seat.now.core) (view_of c.args.seat.now) (view_of c.live_id.new.seat) (view_of c.free_id.new.seat) c.args.entries.now.items c.live_id.ensures.loads c.free_id.ensures.loads c.requires.pool c.args.decl c.in-Some-free_id.id c.requires.decl (c.live_id.ensures.missing c.in_default.is) (c.in-Some-free_id.ensures.lowest ∙ ap (λ (x : Core). lowest_idle (shape_of x).ids (pool_of (shape_of x) (view_of c.live_id.new.seat))) c.live_id.ensures.table));
}

-- the step was made
grown : (c : goal.After-push) → c.push.new.self.items ≡ c.args.entries.now.items ++ Registered c.args.decl c.in-Some-free_id.id c.phase-word.result.lookups ∷ []
grown c = c.push.ensures.items ∙ ap (λ (l : List PoolEntry). l ++ Registered c.args.decl c.in-Some-free_id.id c.phase-word.result.lookups ∷ []) c.reserve.ensures.items

pub returns-clause-pool : goal.returns-clause-pool
returns-clause-pool c = let shape : Shape = shape_of c.args.seat.now.core in let v = view_of c.args.seat.now in let t = view_of c.live_id.new.seat in let u = view_of c.free_id.new.seat in let pool : List PoolEntry = c.args.entries.now.items in let a = c.live_id.ensures.loads in let b = c.free_id.ensures.loads in let is = c.requires.pool in
    registered_hand c.args.seat.now.core.setting v u pool (both shape v t u pool a b is) is c.requires.free (view_of c.phase-word.new.self) c.args.decl c.in-Some-free_id.id c.len-entry.result c.phase-word.result (not_live shape v t u pool a b is c.args.decl (c.live_id.ensures.missing c.in_default.is)) (lowest shape v t u pool a b is c.in-Some-free_id.id (c.in-Some-free_id.ensures.lowest ∙ ap (λ (x : Core). lowest_idle (shape_of x).ids (pool_of (shape_of x) (view_of c.live_id.new.seat))) c.live_id.ensures.table)) (has_still shape v t u pool a b is) (subst (λ (x : Core). Raises x.setting u c.in-Some-free_id.id c.args.decl c.phase-word.result (view_of c.phase-word.new.self)) (c.free_id.ensures.table ∙ c.live_id.ensures.table) c.phase-word.ensures.raised)
    ∙ ap (only_pool shape) (sym (grown c))

pub returns-clause-spare : goal.returns-clause-spare
returns-clause-spare c = omega (arith, dying_most (shape_of c.args.seat.now.core).ids c.push.new.self.items, c.push.ensures.spare, c.in-Ok.ensures.spare, ap (λ (s : Shape). s.ids) (c.shape.ensures ∙ ap shape_of (c.core.ensures ∙ (c.free_id.ensures.table ∙ c.live_id.ensures.table))))

pub returns-clause-answer : goal.returns-clause-answer
returns-clause-answer c = let shape : Shape = shape_of c.args.seat.now.core in let v = view_of c.args.seat.now in let t = view_of c.live_id.new.seat in let u = view_of c.free_id.new.seat in let pool : List PoolEntry = c.args.entries.now.items in let a = c.live_id.ensures.loads in let b = c.free_id.ensures.loads in let is = c.requires.pool in
    registered_now c.args.seat.now.core.setting v u pool (both shape v t u pool a b is) is c.requires.free (view_of c.phase-word.new.self) c.args.decl c.in-Some-free_id.id c.len-entry.result c.phase-word.result (not_live shape v t u pool a b is c.args.decl (c.live_id.ensures.missing c.in_default.is)) (lowest shape v t u pool a b is c.in-Some-free_id.id (c.in-Some-free_id.ensures.lowest ∙ ap (λ (x : Core). lowest_idle (shape_of x).ids (pool_of (shape_of x) (view_of c.live_id.new.seat))) c.live_id.ensures.table)) (has_still shape v t u pool a b is) (subst (λ (x : Core). Raises x.setting u c.in-Some-free_id.id c.args.decl c.phase-word.result (view_of c.phase-word.new.self)) (c.free_id.ensures.table ∙ c.live_id.ensures.table) c.phase-word.ensures.raised)
    c.push.new.self.items (grown c) c.len-entry.ensures c.requires.seen

pub returns-in_default-free_id-clause-answer : goal.returns-in_default-free_id-clause-answer
returns-in_default-free_id-clause-answer c = let shape : Shape = shape_of c.args.seat.now.core in let v = view_of c.args.seat.now in let t = view_of c.live_id.new.seat in let u = view_of c.free_id.new.seat in let pool : List PoolEntry = c.args.entries.now.items in let a = c.live_id.ensures.loads in let b = c.free_id.ensures.loads in let is = c.requires.pool in
    none_left c.args.seat.now.core.setting v u pool (both shape v t u pool a b is) is c.requires.free c.args.decl c.len-entry.result (not_live shape v t u pool a b is c.args.decl (c.live_id.ensures.missing c.in_default.is)) (lowest_none shape v t u pool a b is (sym c.in_default-free_id.is ∙ (c.free_id.ensures.lowest ∙ ap (λ (x : Core). lowest_idle (shape_of x).ids (pool_of (shape_of x) (view_of c.live_id.new.seat))) c.live_id.ensures.table))) c.len-entry.ensures

pub returns-in_default-reserve-clause-answer : goal.returns-in_default-reserve-clause-answer
returns-in_default-reserve-clause-answer c = let shape : Shape = shape_of c.args.seat.now.core in let v = view_of c.args.seat.now in let t = view_of c.live_id.new.seat in let u = view_of c.free_id.new.seat in let pool : List PoolEntry = c.args.entries.now.items in let a = c.live_id.ensures.loads in let b = c.free_id.ensures.loads in let is = c.requires.pool in
    subst (λ (l : List PoolEntry). RegisterLacksMemory shape v c.args.decl l 0 u) (sym c.reserve.ensures.items)
    (no_memory c.args.seat.now.core.setting v u pool (both shape v t u pool a b is) is c.requires.free c.args.decl c.in-Some-free_id.id (not_live shape v t u pool a b is c.args.decl (c.live_id.ensures.missing c.in_default.is)) (lowest shape v t u pool a b is c.in-Some-free_id.id (c.in-Some-free_id.ensures.lowest ∙ ap (λ (x : Core). lowest_idle (shape_of x).ids (pool_of (shape_of x) (view_of c.live_id.new.seat))) c.live_id.ensures.table)))
