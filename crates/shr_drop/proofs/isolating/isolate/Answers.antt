-- SPDX-License-Identifier: GPL-2.0-only
use Rattle.shr_drop.proofs.Common.{◌≡◌, ℕ, List, [], ◌∷◌, ◌++◌, ap, sym, subst, ◌∙◌, Place, Isolation, place_number, shape_of, Keeps, state_of, Isolates, found_place, visitor_of, AreIsolated, visitor_in, get_or, IsPlaceOfShape, Listing}
use Rattle.std.proofs.lemmas.Option.{slice_get_read}
use Rattle.shr_base.specs.declared.scripts.CacheDecl.{CacheDecl}
use Rattle.shr_core.specs.Seats.{Seated, view_of}
use Rattle.shr_walk.specs.Acting.{Acting}
use Rattle.shr_walk.specs.Listing.{IsReady}
use Rattle.shr_walk.specs.Sharing.{IsShared}
use Rattle.shr_cache.specs.Opening.{IsTargetOf}
use Rattle.shr_drop.proofs.ByLaw.{found_lawful}
use Rattle.shr_drop.proofs.Turning.{held_still, rested_then, with_cache}
use Rattle.shr_drop.proofs.isolating.isolate.Goals as goal

pub visit_all-made-requires-clause-shared : goal.visit_all-made-requires-clause-shared
visit_all-made-requires-clause-shared g c = subst (λ (l : Listing). IsShared l.shared) (sym c.new-lister.ensures) c.worker.invariant.shared

pub visit_all-made-requires-clause-place : goal.visit_all-made-requires-clause-place
visit_all-made-requires-clause-place g c = let t = subst (λ (w : Acting). IsTargetOf (shape_of w.shared.core) c.args.target) (sym c.worker.view_is) c.requires.target in
    subst (λ (l : Listing). IsPlaceOfShape (shape_of l.shared.core) l.place) (sym c.new-lister.ensures) (record { id = c.in-Held.ensures.after.near; node = t.node; group = t.group })

pub visit_all-made-requires-clause-ready : goal.visit_all-made-requires-clause-ready
visit_all-made-requires-clause-ready g c = let h = c.in-Held.ensures.after in
    subst (λ (l : Listing). IsReady l.shared l.place c.open.new.seats.cache) (sym c.new-lister.ensures) (record { core = h.core; charge = h.charge; rooms = h.rooms; held = h.held; owner = h.owner })

pub put-requires : goal.put-requires
put-requires g c = let h = c.in-Held.ensures.after in let t = c.args.target in let at = c.worker.inside in let d = c.index-as_slice-decl.result in
    record {
      holds = held_still at.shared.now (found_place c.in-Held.found t.node t.group) _ at.by d.policy c.open.new.seats c.visit_all-made.new.seats.cache h
          (subst (λ (l : Listing). Keeps l.shared (place_number l.place) l.walk l.by l.policy c.open.new.seats.cache c.visit_all-made.new.seats.cache) c.new-lister.ensures c.visit_all-made.ensures.kept);
    }

pub invariant_of-worker-2 : goal.invariant_of-worker-2
invariant_of-worker-2 g c = let h = c.in-Held.ensures.after in let t = c.args.target in let at = c.worker.inside in let d = c.index-as_slice-decl.result in record {
  shared = c.worker.invariant.shared;
  rested = rested_then at.shared.now (found_place c.in-Held.found t.node t.group) _ at.by d.policy c.open.new.seats c.visit_all-made.new.seats c.put.new.self h
      (subst (λ (l : Listing). Keeps l.shared (place_number l.place) l.walk l.by l.policy c.open.new.seats.cache c.visit_all-made.new.seats.cache) c.new-lister.ensures c.visit_all-made.ensures.kept)
      c.visit_all-made.ensures.same c.put.ensures.back;
}

pub returns-clause-isolated : goal.returns-clause-isolated
returns-clause-isolated g c = let a = c.args in let t = a.target in let at = c.worker.inside in let x = at.shared.now in let f = c.in-Held.found in let d = c.index-as_slice-decl.result in let made = c.visit_all-made.result in let seats = c.visit_all-made.new.seats in
    let target = subst (λ (w : Acting). IsTargetOf (shape_of w.shared.core) t) (sym c.worker.view_is) c.requires.target in
    let place : Place = found_place f t.node t.group in let last = state_of (with_cache seats (record { core = c.put.new.self; charge = seats.cache.charge; uses = seats.cache.uses })) in
    let one : Isolation = record { by = at.by; place = place; budget = a.budget; visits = made.visits; freed = made.freed; ending = made.ending } in
    subst (λ (w : Acting). Isolates w.shared w.by t.group t.node t.decl a.budget f made.visits made.freed made.ending w.state last a.log.now.items c.push.new.self.items) c.worker.view_is (record {
      loaded = c.in-Held.ensures.opened.loaded;
      held = state_of c.open.new.seats;
      visited = state_of seats;
      online = c.in-Held.ensures.opened.online;
      holds = c.in-Held.ensures.opened.holds;
      d = d;
      declared = slice_get_read x.script.caches.items (shape_of x.core).decls t.decl d c.worker.invariant.shared.decls target.decl (subst (λ (l : List CacheDecl). d ≡ get_or l t.decl d) c.as_slice.ensures c.index-as_slice-decl.is);
      visiting = subst (λ (n : ℕ). AreIsolated x (visitor_of at.by n place d) a.budget made.visits made.freed made.ending (state_of c.open.new.seats) (state_of seats)) c.len-number.ensures
          (subst (λ (l : Listing). AreIsolated l.shared (visitor_in l) a.budget made.visits made.freed made.ending (state_of c.open.new.seats) (state_of seats)) c.new-lister.ensures c.visit_all-made.ensures.isolated);
      back = ap (λ (q : Seated). record (state_of seats) { core = view_of q }) c.put.ensures.back;
      recorded = c.push.ensures.items ∙ ap (λ (l : List Isolation). l ++ one ∷ []) c.reserve.ensures.items;
    })

pub returns-clause-lawful : goal.returns-clause-lawful
returns-clause-lawful g c = let a = c.args in let t = a.target in let w = a.worker.now in let made = c.visit_all-made.result in let seats = c.visit_all-made.new.seats in
    found_lawful w.shared w.by t.group t.node t.decl a.budget c.in-Held.found made.visits made.freed made.ending w.state
    (state_of (with_cache seats (record { core = c.put.new.self; charge = seats.cache.charge; uses = seats.cache.uses })))
    a.log.now.items c.push.new.self.items (returns-clause-isolated g c)
