-- SPDX-License-Identifier: GPL-2.0-only
use Rattle.shr_walk.proofs.Common.{rules, refl, ℕ, ◌*◌, ◌≤◌, length, sym, AreBorn, groups_in, IsPlaceOfShape, ap, subst, ◌∙◌, arith, [], ◌+◌, ◌<◌, ◌^◌, place_number, depth_of, scan_entry, view_of, shape_of, uses_of, List, Object, UseStep, keeps_refl, AllUncharged}
use Rattle.shr_walk.proofs.Freeing.{few}
use Rattle.shr_core.specs.declared.table.Core.{Core}
use Rattle.shr_charge.specs.declared.table.Charge.{Charge}
use Rattle.shr_node.specs.Answers.{ScansPlace}
use Rattle.shr_walk.proofs.Shares.{parents_at}
use Rattle.shr_walk.proofs.Scanned.{left_keeps, scan_keeps, worn_gains, not_spent}
use Rattle.shr_walk.proofs.ListScanning.{spent_found, fewer}
use Rattle.shr_node.proofs.Gaining.{gains_none}
use Rattle.shr_walk.proofs.lister.Lister.scan_list.Goals as goal

pub returns-in-Some-clause-kept : goal.returns-in-Some-clause-kept
returns-in-Some-clause-kept g c = let a = c.args.self.now in keeps_refl a.shared.now (place_number a.place) a.walk a.by a.policy c.args.seat.now

pub returns-then-is_err-clause-kept : goal.returns-then-is_err-clause-kept
returns-then-is_err-clause-kept g c = let a = c.args.self.now in left_keeps a.shared.now (place_number a.place) a.walk a.by a.policy c.args.seat.now c.args.seat.now.core c.reserve.new.self refl (gains_none (view_of c.args.seat.now.core)) c.reserve.ensures.items

pub overflow_cast-objects : goal.overflow_cast-objects
overflow_cast-objects g c = let d = c.in-Scanned.ensures.answer in let f = few c.args.self.now.policy c.args.asked [] d.old.items in let t = f.asked in let e = ap (λ l. length l) d.told.removed in let n = c.len-objects.ensures in let r = c.ranges.asked.fits in omega (arith, t, e, n, r)

pub returns-in-Scanned-clause-kept : goal.returns-in-Scanned-clause-kept
returns-in-Scanned-clause-kept g c = let a = c.args.self.now in let d = c.in-Scanned.ensures.answer in let f = few a.policy c.args.asked [] d.old.items in let most = f.there in let told = ap (λ l. length l) d.told.removed in let m = d.was.later.items in let q = ap (λ (k : Core). (shape_of k).most_items) c.requires.ready.core in let mm = c.requires.shared.most_items in let u = not_spent (uses_of c.args.seat.now.charge) (sym c.spent.ensures ∙ c.in_default.is) in let low : (uses_of c.args.seat.now.charge).uncharges + length c.in-Scanned.freed.items < 2 ^ 25 = omega (arith, most, told, m, q, mm, u) in scan_keeps a.shared.now (place_number a.place) a.walk a.by a.policy c.args.seat.now c.scan.new.seat c.reserve.new.self c.in-Scanned.ensures.table (shape_of c.args.seat.now.core.core) d.old c.args.asked c.in-Scanned.freed.items c.uncharge_all.new.seat c.uncharge_all.new.uses d.was d.told.removed (subst (λ (k : Core). AreBorn (groups_in (shape_of k)) c.in-Scanned.freed.items) c.requires.ready.core d.born) d.gains c.reserve.ensures.items (subst (λ (ps : List ℕ). AllUncharged ps a.by c.in-Scanned.freed.items c.args.seat.now.charge c.uncharge_all.new.seat c.reserve.new.self.items c.uncharge_all.new.uses.items) (parents_at a.shared.now a.place c.args.seat.now c.requires.shared c.requires.ready) (subst (λ (l : List Object). AllUncharged c.args.seat.now.charge.charge.shape.parents.items a.by l c.args.seat.now.charge c.uncharge_all.new.seat c.reserve.new.self.items c.uncharge_all.new.uses.items) c.as_slice.ensures c.uncharge_all.ensures.uncharged)) low

pub returns-in-Closed-clause-kept : goal.returns-in-Closed-clause-kept
returns-in-Closed-clause-kept g c = let a = c.args.self.now in left_keeps a.shared.now (place_number a.place) a.walk a.by a.policy c.args.seat.now c.scan.new.seat c.reserve.new.self c.in-Closed.ensures.table c.in-Closed.ensures.answer.gains c.reserve.ensures.items

pub returns-in-Worn-clause-kept : goal.returns-in-Worn-clause-kept
returns-in-Worn-clause-kept g c = let a = c.args.self.now in left_keeps a.shared.now (place_number a.place) a.walk a.by a.policy c.args.seat.now c.scan.new.seat c.reserve.new.self c.in-Worn.ensures.table (worn_gains (shape_of c.args.seat.now.core.core) (view_of c.args.seat.now.core) (view_of c.scan.new.seat) a.place (λ old. scan_entry old a.by.worker a.walk a.policy c.args.asked) c.in-Worn.spent c.in-Worn.ensures.answer) c.reserve.ensures.items

pub returns-in-Memory-clause-kept : goal.returns-in-Memory-clause-kept
returns-in-Memory-clause-kept g c = let a = c.args.self.now in left_keeps a.shared.now (place_number a.place) a.walk a.by a.policy c.args.seat.now c.scan.new.seat c.reserve.new.self c.in-Memory.ensures.table c.in-Memory.ensures.answer.free.gains c.reserve.ensures.items

pub uncharge_all-requires-clause-calls : goal.uncharge_all-requires-clause-calls
uncharge_all-requires-clause-calls g c = let d = c.in-Scanned.ensures.answer in let f = few c.args.self.now.policy c.args.asked [] d.old.items in let t = f.asked in let h = f.there in let e = ap (λ l. length l) d.told.removed in let sl = ap (λ l. length l) c.as_slice.ensures in let m = d.was.later.items in let q = ap (λ (k : Core). (shape_of k).most_items) c.requires.ready.core in let mm = c.requires.shared.most_items in let u = not_spent (uses_of c.args.seat.now.charge) (sym c.spent.ensures ∙ c.in_default.is) in omega (arith, t, h, e, sl, m, q, mm, u)

pub uncharge_all-requires-clause-room : goal.uncharge_all-requires-clause-room
uncharge_all-requires-clause-room g c = let d = c.in-Scanned.ensures.answer in let f = few c.args.self.now.policy c.args.asked [] d.old.items in let t = f.asked in let h = f.there in let e = ap (λ l. length l) d.told.removed in let sl = ap (λ l. length l) c.as_slice.ensures in let m = d.was.later.items in let q = ap (λ (k : Core). (shape_of k).most_items) c.requires.ready.core in let mm = c.requires.shared.most_items in let n = c.min-most.ensures in
    let x = c.args.self.now.shared.now in let r : x.deepest * c.min-most.result ≤ c.reserve.new.self.spare = search rules in
    record {
      most = x.deepest;
      deep = let same = ap (λ (k : Charge). k.shape.parents.items) c.requires.ready.charge ∙ c.requires.shared.charged in λ group low. subst (λ (ps : List ℕ). depth_of ps group ≤ x.deepest) (sym same) (c.requires.shared.deepest.deep group (subst (λ (ps : List ℕ). group < length ps) same low));
      room = fewer x.deepest (length c.as_slice.result.now) c.min-most.result c.reserve.new.self.spare (omega (arith, t, h, e, sl, m, q, mm, n)) r;
    }

pub returns-in-Some-clause-scanned : goal.returns-in-Some-clause-scanned
returns-in-Some-clause-scanned g c = let a = c.args.self.now in spent_found a.shared.now a.place a.walk a.by a.policy c.args.asked c.in-Some.spent c.args.seat.now (sym c.spent.ensures ∙ c.in-Some.is)

pub returns-in-Scanned-clause-scanned : goal.returns-in-Scanned-clause-scanned
returns-in-Scanned-clause-scanned g c = let a = c.args.self.now in record {
  may = sym c.spent.ensures ∙ c.in_default.is;
  freed = c.in-Scanned.freed.items;
  count = c.len-objects.ensures;
  made = subst (λ (k : Core). ScansPlace (shape_of k) (view_of c.args.seat.now.core) (view_of c.scan.new.seat) a.place a.by.worker a.walk a.policy c.args.asked c.in-Scanned.freed.items c.in-Scanned.visits c.in-Scanned.stopped) c.requires.ready.core c.in-Scanned.ensures.answer;
  uncharged = subst (λ (start : List UseStep). AllUncharged (shape_of a.shared.now.core).parents.items a.by c.in-Scanned.freed.items c.args.seat.now.charge c.uncharge_all.new.seat start c.uncharge_all.new.uses.items) c.reserve.ensures.items
      (subst (λ (ps : List ℕ). AllUncharged ps a.by c.in-Scanned.freed.items c.args.seat.now.charge c.uncharge_all.new.seat c.reserve.new.self.items c.uncharge_all.new.uses.items) (parents_at a.shared.now a.place c.args.seat.now c.requires.shared c.requires.ready)
      (subst (λ (l : List Object). AllUncharged c.args.seat.now.charge.charge.shape.parents.items a.by l c.args.seat.now.charge c.uncharge_all.new.seat c.reserve.new.self.items c.uncharge_all.new.uses.items) c.as_slice.ensures c.uncharge_all.ensures.uncharged));
}

pub scan-requires-clause-place : goal.scan-requires-clause-place
scan-requires-clause-place g c = subst (λ (k : Core). IsPlaceOfShape (shape_of k) c.args.self.now.place) (sym c.requires.ready.core) c.requires.place

pub uncharge_all-requires-clause-born : goal.uncharge_all-requires-clause-born
uncharge_all-requires-clause-born g c = let a = c.args.self.now in let d = c.in-Scanned.ensures.answer in
    subst (λ (l : List Object). AreBorn (length c.args.seat.now.charge.charge.shape.parents.items) l) (sym c.as_slice.ensures)
    (subst (λ (ps : List ℕ). AreBorn (length ps) c.in-Scanned.freed.items) (sym (parents_at a.shared.now a.place c.args.seat.now c.requires.shared c.requires.ready))
    (subst (λ (k : Core). AreBorn (groups_in (shape_of k)) c.in-Scanned.freed.items) c.requires.ready.core d.born))
