-- SPDX-License-Identifier: GPL-2.0-only
use Rattle.shr_worker.proofs.Common.{length, take, refl, ap, sym, subst, ◌∙◌, ◌<◌, ◌≤◌, ◌++◌, ◌∷◌, [], List, arith, Object, UseStep, AllUncharged}
use Rattle.std.proofs.lemmas.Grind.{take_at_read}
use Rattle.shr_model.proofs.GroupsLaws.{depth_of-le}
use Rattle.shr_model.specs.Trees.{depth_of}
use Rattle.shr_model.specs.Groups.{path_of}
use Rattle.atomic_table.proofs.Lists.{at_index}
use Rattle.shr_charge.specs.Charging.{AreDowns}
use Rattle.shr_charge.specs.declared.table.Charge.{Charge}
use Rattle.shr_walk.proofs.Scanned.{uncharged_push}
use Rattle.shr_worker.proofs.uncharging.uncharge_each.Goals as goal

pub uncharge-requires-clause-group : goal.uncharge-requires-clause-group
uncharge-requires-clause-group c = subst (λ (t : Charge). c.object-item.result.birth < length t.shape.parents.items) (sym c.loop-object.invariant.uncharged.table)
    (c.requires.born c.loop-object.object-index c.object-item.result (at_index c.args.objects.now c.loop-object.object-index c.object-item.result c.loop-object-test.true c.object-item.is))

pub uncharge-requires-clause-spare : goal.uncharge-requires-clause-spare
uncharge-requires-clause-spare c = let born = c.requires.born c.loop-object.object-index c.object-item.result (at_index c.args.objects.now c.loop-object.object-index c.object-item.result c.loop-object-test.true c.object-item.is) in
    let deep = depth_of-le c.args.seat.now.charge.shape.parents.items c.object-item.result.birth in let same = ap (λ (t : Charge). length t.shape.parents.items) c.table.ensures in let levels = c.len-levels.ensures in let spare = c.in_ok-reserve.ensures.spare in
    subst (λ (t : Charge). depth_of t.shape.parents.items c.object-item.result.birth ≤ c.reserve.new.self.spare) (sym c.loop-object.invariant.uncharged.table) (omega (arith, born, deep, same, levels, spare))

pub loop-object-preserved : goal.loop-object-preserved
loop-object-preserved c = let i = c.loop-object.object-index in let objects = c.args.objects.now in let it = c.loop-object-test.true in let did = c.uncharge.ensures.uncharges in let so_far = c.loop-object.invariant.uncharged in let o = c.object-item.result in
    let one = (take_at_read objects i o it).1 ∙ ap (λ (p : Object). take i objects ++ p ∷ []) (sym c.object-item.is) in
    let noted = did.noted.noted ∙ ap (λ (l : List UseStep). l ++ did.ops) c.reserve.ensures.items in record {
      within = omega (arith, it);
      uncharged = subst (λ (l : List Object). AllUncharged c.args.seat.now.charge.shape.parents.items c.args.by l c.args.seat.now c.uncharge.new.self c.args.uses.now.items c.uncharge.new.uses.items) (sym one)
          (uncharged_push c.args.seat.now.charge.shape.parents.items c.args.by (take i objects) o c.args.seat.now c.loop-object.seat c.uncharge.new.self c.args.uses.now.items c.loop-object.uses.items c.uncharge.new.uses.items did.ops so_far did.noted.table did.noted.gains did.noted.tree did.noted.standing did.noted.rise noted
          (subst (λ (t : Charge). AreDowns c.args.by (path_of t.shape.parents.items o.birth) did.ops) so_far.table did.made));
      objects = refl;
      by = refl;
    }
