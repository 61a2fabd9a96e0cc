-- SPDX-License-Identifier: GPL-2.0-only
use Rattle.shr_drop.proofs.Common.{◌≡◌, ℕ, refl, subst, Bool, [], arith, place_number, listing_of, state_of, Visitor, visitor_in, ScansOnce, AreIsolated, keeps_refl, keeps_trans}
use Rattle.shr_walk.specs.Listing.{ready_stays}
use Rattle.shr_base.specs.declared.replies.IsolateEnd.TheVariants.{Spent}
use Rattle.shr_drop.proofs.Turning.{with_cache, scans_once, meets_closed, meets_worn, lacks_room, met_none, met_some, frees_few, so_far_more, ends_spent, ends_stopped, ends_bare, ends_closed, ends_worn, ends_lacking}
use Rattle.shr_drop.proofs.visits.visit_all.Goals as goal

pub loop-visits-init : goal.loop-visits-init
loop-visits-init g c = let a = listing_of c.args.lister.now in record {
  kept = keeps_refl a.shared (place_number a.place) a.walk a.by a.policy c.args.seats.now.cache;
  same = record { deferred = refl; walks = refl; carries = refl };
  visited = record { each = []; visited = refl; count = refl; total = refl; few = omega arith };
  within = omega arith;
  lister = refl;
  budget = refl;
}

pub scan_list-requires-clause-ready : goal.scan_list-requires-clause-ready
scan_list-requires-clause-ready g c = let a = listing_of c.args.lister.now in ready_stays a.shared.core a.shared.charge a.place a.shared (place_number a.place) a.walk a.by a.policy c.args.seats.now.cache c.loop-visits.seats.cache c.requires.ready c.loop-visits.invariant.kept

pub returns-then-met-eq0-clause-kept : goal.returns-then-met-eq0-clause-kept
returns-then-met-eq0-clause-kept g c = let a = listing_of c.args.lister.now in keeps_trans a.shared (place_number a.place) a.walk a.by a.policy c.args.seats.now.cache c.loop-visits.seats.cache c.scan_list.new.seat c.loop-visits.invariant.kept c.scan_list.ensures.kept

pub returns-then-met-eq0-clause-isolated : goal.returns-then-met-eq0-clause-isolated
returns-then-met-eq0-clause-isolated g c = let a = listing_of c.args.lister.now in let i : Visitor = visitor_in a in let u = c.loop-visits.seats in let t = c.scan_list.new.seat in let s = c.in-Scanned in
    ends_bare a.shared i c.args.budget c.loop-visits.visits c.loop-visits.freed (state_of c.args.seats.now) (state_of u) (state_of (with_cache u t)) c.loop-visits.invariant.visited c.loop-visits-test.true
    (met_none a.shared i s.objects s.met s.stopped (state_of u) (state_of (with_cache u t)) (scans_once a.shared i u t s.objects s.met s.stopped s.ensures.scanned) c.if-met-eq0.true)

pub overflow_add-freed : goal.overflow_add-freed
overflow_add-freed g c = let a = listing_of c.args.lister.now in let i : Visitor = visitor_in a in let u = c.loop-visits.seats in let t = c.scan_list.new.seat in let s = c.in-Scanned in
    let few = frees_few a.shared i s.objects s.met s.stopped (state_of u) (state_of (with_cache u t)) (scans_once a.shared i u t s.objects s.met s.stopped s.ensures.scanned) in
    let far = c.loop-visits.invariant.visited.few in let left = c.loop-visits-test.true in let most = c.requires.budget in omega (arith, few, far, left, most)

pub returns-then-stopped-clause-kept : goal.returns-then-stopped-clause-kept
returns-then-stopped-clause-kept g c = let a = listing_of c.args.lister.now in keeps_trans a.shared (place_number a.place) a.walk a.by a.policy c.args.seats.now.cache c.loop-visits.seats.cache c.scan_list.new.seat c.loop-visits.invariant.kept c.scan_list.ensures.kept

pub returns-then-stopped-clause-isolated : goal.returns-then-stopped-clause-isolated
returns-then-stopped-clause-isolated g c = let a = listing_of c.args.lister.now in let i : Visitor = visitor_in a in let u = c.loop-visits.seats in let t = c.scan_list.new.seat in let s = c.in-Scanned in
    let once = met_some a.shared i s.objects s.met s.stopped (state_of u) (state_of (with_cache u t)) (scans_once a.shared i u t s.objects s.met s.stopped s.ensures.scanned) (let z = c.if-met-eq0.false in omega (arith, z)) in
    ends_stopped a.shared i c.args.budget c.loop-visits.visits c.loop-visits.freed (state_of c.args.seats.now) (state_of u) (state_of (with_cache u t)) c.loop-visits.invariant.visited s.objects c.loop-visits-test.true
    (subst (λ (b : Bool). ScansOnce a.shared i s.objects 1 b (state_of u) (state_of (with_cache u t))) c.if-stopped.true once)

pub returns-in-Closed-clause-kept : goal.returns-in-Closed-clause-kept
returns-in-Closed-clause-kept g c = let a = listing_of c.args.lister.now in keeps_trans a.shared (place_number a.place) a.walk a.by a.policy c.args.seats.now.cache c.loop-visits.seats.cache c.scan_list.new.seat c.loop-visits.invariant.kept c.scan_list.ensures.kept

pub returns-in-Closed-clause-isolated : goal.returns-in-Closed-clause-isolated
returns-in-Closed-clause-isolated g c = let a = listing_of c.args.lister.now in let i : Visitor = visitor_in a in let u = c.loop-visits.seats in let t = c.scan_list.new.seat in
    ends_closed a.shared i c.args.budget c.loop-visits.visits c.loop-visits.freed (state_of c.args.seats.now) (state_of u) (state_of (with_cache u t)) c.loop-visits.invariant.visited c.loop-visits-test.true
    (meets_closed a.shared i u t c.in-Closed.ensures.scanned)

pub returns-in-Worn-clause-kept : goal.returns-in-Worn-clause-kept
returns-in-Worn-clause-kept g c = let a = listing_of c.args.lister.now in keeps_trans a.shared (place_number a.place) a.walk a.by a.policy c.args.seats.now.cache c.loop-visits.seats.cache c.scan_list.new.seat c.loop-visits.invariant.kept c.scan_list.ensures.kept

pub returns-in-Worn-clause-isolated : goal.returns-in-Worn-clause-isolated
returns-in-Worn-clause-isolated g c = let a = listing_of c.args.lister.now in let i : Visitor = visitor_in a in let u = c.loop-visits.seats in let t = c.scan_list.new.seat in
    ends_worn a.shared i c.args.budget c.loop-visits.visits c.loop-visits.freed (state_of c.args.seats.now) (state_of u) (state_of (with_cache u t)) c.loop-visits.invariant.visited c.in-Worn.spent c.loop-visits-test.true
    (meets_worn a.shared i u t c.in-Worn.spent c.in-Worn.ensures.scanned)

pub returns-in-NoRoom-clause-kept : goal.returns-in-NoRoom-clause-kept
returns-in-NoRoom-clause-kept g c = let a = listing_of c.args.lister.now in keeps_trans a.shared (place_number a.place) a.walk a.by a.policy c.args.seats.now.cache c.loop-visits.seats.cache c.scan_list.new.seat c.loop-visits.invariant.kept c.scan_list.ensures.kept

pub returns-in-NoRoom-clause-isolated : goal.returns-in-NoRoom-clause-isolated
returns-in-NoRoom-clause-isolated g c = let a = listing_of c.args.lister.now in let i : Visitor = visitor_in a in let u = c.loop-visits.seats in let t = c.scan_list.new.seat in
    ends_lacking a.shared i c.args.budget c.loop-visits.visits c.loop-visits.freed (state_of c.args.seats.now) (state_of u) (state_of (with_cache u t)) c.loop-visits.invariant.visited c.loop-visits-test.true
    (lacks_room a.shared i u t c.in-NoRoom.ensures.scanned)

pub loop-visits-preserved : goal.loop-visits-preserved
loop-visits-preserved g c = let a = listing_of c.args.lister.now in let i : Visitor = visitor_in a in let u = c.loop-visits.seats in let t = c.scan_list.new.seat in let s = c.in-Scanned in
    let once = met_some a.shared i s.objects s.met s.stopped (state_of u) (state_of (with_cache u t)) (scans_once a.shared i u t s.objects s.met s.stopped s.ensures.scanned) (let z = c.if-met-eq0.false in omega (arith, z)) in record {
      kept = keeps_trans a.shared (place_number a.place) a.walk a.by a.policy c.args.seats.now.cache c.loop-visits.seats.cache c.scan_list.new.seat c.loop-visits.invariant.kept c.scan_list.ensures.kept;
      same = let e = c.loop-visits.invariant.same in record { deferred = e.deferred; walks = e.walks; carries = e.carries };
      visited = so_far_more a.shared i c.loop-visits.visits c.loop-visits.freed s.objects (state_of c.args.seats.now) (state_of u) (state_of (with_cache u t)) c.loop-visits.invariant.visited
          (subst (λ (b : Bool). ScansOnce a.shared i s.objects 1 b (state_of u) (state_of (with_cache u t))) c.if-stopped.false once);
      within = let l = c.loop-visits-test.true in omega (arith, l);
      lister = refl;
      budget = refl;
    }

pub returns-clause-isolated : goal.returns-clause-isolated
returns-clause-isolated g c = let a = listing_of c.args.lister.now in let i : Visitor = visitor_in a in
    let all : c.loop-visits.visits ≡ c.args.budget = let far = c.loop-visits-test.false in let near = c.loop-visits.invariant.within in omega (arith, far, near) in
    subst (λ (n : ℕ). AreIsolated a.shared i c.args.budget n c.loop-visits.freed Spent (state_of c.args.seats.now) (state_of c.loop-visits.seats)) all
    (ends_spent a.shared i c.args.budget c.loop-visits.visits c.loop-visits.freed (state_of c.args.seats.now) (state_of c.loop-visits.seats) (state_of c.loop-visits.seats) c.loop-visits.invariant.visited all)
