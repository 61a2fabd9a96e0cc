-- SPDX-License-Identifier: GPL-2.0-only
use Rattle.shr_registry.proofs.Common.{subst, Core, view_of, shape_of, FindGives}
use Rattle.shr_registry.proofs.Agains.{loads_nothing, find_since, found_again, dated_again}
use Rattle.shr_registry.proofs.finding.find.Goals as goal

pub returns-in-Some-clause-answer : goal.returns-in-Some-clause-answer
returns-in-Some-clause-answer g c = found_again (shape_of c.args.seat.now.core) (view_of c.args.seat.now) (view_of c.lookup_again.new.self) c.args.decl c.in-Some.again c.requires.free c.in-Some.ensures.found

pub returns-in-Some-clause-dated : goal.returns-in-Some-clause-dated
returns-in-Some-clause-dated g c = dated_again (shape_of c.args.seat.now.core) (view_of c.args.seat.now) (view_of c.lookup_again.new.self) c.args.decl c.in-Some.again c.requires.free c.in-Some.ensures.found

pub returns-clause-answer : goal.returns-clause-answer
returns-clause-answer g c = let v = view_of c.args.seat.now in let u = view_of c.lookup_again.new.self in let w = view_of c.find_in_pool.new.seat in
    find_since (shape_of c.args.seat.now.core) v u w c.args.decl w.turns.known (loads_nothing v u (c.lookup_again.ensures.unknown c.in_default.is)) c.find_in_pool.result (subst (λ (x : Core). FindGives (shape_of x) u c.args.decl w.turns.known 1 c.find_in_pool.result w) c.lookup_again.ensures.table c.find_in_pool.ensures.answer)
