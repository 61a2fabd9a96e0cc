-- SPDX-License-Identifier: GPL-2.0-only
use Rattle.shr_registry.proofs.Common.{ap, subst, ◌∙◌, pool_of, Core, Seated, view_of, shape_of}
use Rattle.shr_core.specs.Answers.{MetBy}
use Rattle.shr_core.specs.declared.lookups.Lookup.TheVariants as lookup
use Rattle.shr_registry.proofs.Meetings.{id_found, used_up, none_found}
use Rattle.shr_registry.proofs.Searches.{more_loaded}
use Rattle.shr_registry.proofs.finding.meet.Goals as goal

pub returns-in-Held-clause-answer : goal.returns-in-Held-clause-answer
returns-in-Held-clause-answer c = let v = view_of c.args.seat.now in let a = view_of c.live_id.new.seat in let u = view_of c.word_of-phase.new.self in
    id_found (shape_of c.args.seat.now.core) v u (view_of c.lookup.new.self) c.args.decl c.in-Some.id (more_loaded v a u c.in-Some.id c.word_of-phase.result c.in-Some.ensures.loads (ap view_of c.word_of-phase.ensures.loaded)) c.requires.pool c.requires.free c.in-Some.ensures.found c.in-Held.number c.in-Held.decl c.args.entry c.in-Held.ensures.found (subst (λ (x : Core). MetBy (shape_of x) u c.in-Some.id (lookup.Held c.in-Held.number c.in-Held.decl)) (ap (λ (s : Seated). s.core) c.word_of-phase.ensures.loaded ∙ c.in-Some.ensures.table) c.in-Held.ensures.met) c.requires.entry

pub returns-in-Worn-clause-answer : goal.returns-in-Worn-clause-answer
returns-in-Worn-clause-answer c = let v = view_of c.args.seat.now in let a = view_of c.live_id.new.seat in let u = view_of c.word_of-phase.new.self in
    used_up (shape_of c.args.seat.now.core) v u (view_of c.lookup.new.self) c.args.decl c.in-Some.id (more_loaded v a u c.in-Some.id c.word_of-phase.result c.in-Some.ensures.loads (ap view_of c.word_of-phase.ensures.loaded)) c.requires.pool c.requires.free c.in-Some.ensures.found c.in-Worn.seen c.in-Worn.ensures.found

pub returns-in_default-clause-answer : goal.returns-in_default-clause-answer
returns-in_default-clause-answer c = none_found (shape_of c.args.seat.now.core) (view_of c.args.seat.now) (view_of c.live_id.new.seat) c.args.decl c.args.entry (pool_of (shape_of c.args.seat.now.core) (view_of c.args.seat.now)) c.live_id.ensures.loads c.requires.free (c.live_id.ensures.missing c.in_default.is) c.requires.entry
