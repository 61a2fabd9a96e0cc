-- SPDX-License-Identifier: GPL-2.0-only
use Rattle.shr_registry.proofs.Common.{EndsLacking, ◌++◌, ◌∷◌, [], List, ap, ◌∙◌, arith, subst, sym, PoolEntry, Unregistered, from_of, Core, Raises, Shape, view_of, shape_of}
use Rattle.shr_registry.proofs.Registers.{dying_most}
use Rattle.shr_registry.proofs.Retires.{ended_now, not_live_now, no_memory}
use Rattle.shr_registry.proofs.retiring.end.Goals as goal

pub returns-clause-spare : goal.returns-clause-spare
returns-clause-spare c = omega (arith, dying_most (shape_of c.args.seat.now.core).ids c.push.new.self.items, c.push.ensures.spare, c.in-Ok.ensures.spare, ap (λ (s : Shape). s.ids) (c.shape.ensures ∙ ap shape_of (c.core.ensures ∙ c.in-Some.ensures.table)))

pub returns-clause-answer : goal.returns-clause-answer
returns-clause-answer c = let key = c.args.seat.now.core.setting in let v = view_of c.args.seat.now in let u = view_of c.live_id.new.seat in let pool : List PoolEntry = c.args.entries.now.items in let a = c.in-Some.ensures.loads in let live = c.in-Some.ensures.found in
    ended_now key v u pool a c.requires.pool c.requires.free c.args.decl c.in-Some.id live (view_of c.phase-word.new.self) c.len-entry.result c.last_begun-from.result c.phase-word.result (subst (λ (x : Core). Raises x.setting u c.in-Some.id c.args.decl c.phase-word.result (view_of c.phase-word.new.self)) c.in-Some.ensures.table c.phase-word.ensures.raised)
    c.push.new.self.items (c.push.ensures.items ∙ ap (λ (l : List PoolEntry). l ++ Unregistered c.args.decl c.in-Some.id c.phase-word.result.lookups ∷ []) c.reserve.ensures.items) c.len-entry.ensures
    (c.last_begun-from.ensures ∙ ap (from_of c.in-Some.id) c.reserve.ensures.items) c.requires.seen c.requires.later

pub returns-in_default-clause-answer : goal.returns-in_default-clause-answer
returns-in_default-clause-answer c = not_live_now c.args.seat.now.core.setting (view_of c.args.seat.now) (view_of c.live_id.new.seat) c.args.entries.now.items c.live_id.ensures.loads c.requires.pool c.requires.free c.args.decl c.len-entry.result (c.live_id.ensures.missing c.in_default.is) c.len-entry.ensures

pub returns-in_default-reserve-clause-answer : goal.returns-in_default-reserve-clause-answer
returns-in_default-reserve-clause-answer c = let shape : Shape = shape_of c.args.seat.now.core in let v = view_of c.args.seat.now in let u = view_of c.live_id.new.seat in
    subst (λ (l : List PoolEntry). EndsLacking shape v c.args.decl l 0 u) (sym c.reserve.ensures.items)
    (no_memory c.args.seat.now.core.setting v u c.args.entries.now.items c.in-Some.ensures.loads c.requires.pool c.requires.free c.args.decl c.in-Some.id c.in-Some.ensures.found)
