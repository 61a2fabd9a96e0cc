-- SPDX-License-Identifier: GPL-2.0-only
use Rattle.shr_registry.proofs.Common.{List, refl, ap, subst, ◌∙◌, Object, Core, Shape, view_of, shape_of, AreDrained, Emptied, EmptyStops}
use Rattle.shr_registry.proofs.Endings.{freed, half}
use Rattle.shr_registry.proofs.unregistering.unregister.Goals as goal

pub returns-in-Some-clause-answer : goal.returns-in-Some-clause-answer
returns-in-Some-clause-answer g c = let shape : Shape = shape_of c.args.seat.now.core in let d = c.in-Dying in let u = view_of c.settle.new.seat in let w = view_of c.empty.new.seat in let objects : List Object = c.empty.new.objects.items in let table = c.settle.ensures.table ∙ c.retire.ensures.table in
    let e = subst (λ (x : Core). EmptyStops (shape_of x) u w d.id c.args.by c.new-objects.result.items objects c.in-Some.why) table c.in-Some.ensures.answer in
    half shape (view_of c.args.seat.now) (view_of c.retire.new.seat) u w c.args.decl d.id d.entry d.from d.to c.args.by objects d.ensures.answer c.settle.ensures.loads e.draws
    (subst (λ (l : List Object). AreDrained shape u w d.id c.args.by l objects e.draws) c.new-objects.ensures.items e.drained)
    (view_of c.give_up.new.self) c.give_up.result (ap view_of c.give_up.ensures.given_up) c.in-Some.why e.stops c.empty.new.objects refl

pub returns-in_default-clause-answer : goal.returns-in_default-clause-answer
returns-in_default-clause-answer g c = let shape : Shape = shape_of c.args.seat.now.core in let d = c.in-Dying in let u = view_of c.settle.new.seat in let w = view_of c.empty.new.seat in let objects : List Object = c.empty.new.objects.items in let table = c.settle.ensures.table ∙ c.retire.ensures.table in
    let e = subst (λ (x : Core). Emptied (shape_of x) u w d.id (shape_of x).nodes c.args.by c.new-objects.result.items objects) table c.in_default.ensures.answer in
    freed shape (view_of c.args.seat.now) (view_of c.retire.new.seat) u w c.args.decl d.id d.entry d.from d.to c.args.by objects d.ensures.answer c.settle.ensures.loads e.draws
    (subst (λ (l : List Object). AreDrained shape u w d.id c.args.by l objects e.draws) c.new-objects.ensures.items e.drained)
    (view_of c.make_idle.new.seat) e.all c.make_idle.ensures.rests c.empty.new.objects refl
