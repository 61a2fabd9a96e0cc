-- SPDX-License-Identifier: GPL-2.0-only
-- The one order of all that the workers did, of a run whose workers are done.
use Rattle.shr_assemble.proofs.Common.{◌≡◌, ◌≢◌, ℕ, zero, suc, ◌+◌, ◌<◌, ◌⊎◌, inl, inr, ⊎_elim, Bool, true, false, cond, List, [], ◌∷◌, ◌++◌, length, sym, refl, ap, subst, ◌∙◌, arith, eq-eqb, ne_eqb, slice_get, Option, Some, flat_map, ◌==◌, append-nil, same_Some, none-some, slice_get_within, CacheDecl, Has, map_has, flat_map_has, Deed, by_seat, part, times, Begins, begins_all, begins_more, View, last_users, last_moment, among, Event, cleared, opener, Shared, WorkerState, CrewState, Ends, EntersIf, AreEntered, is_on, place_number, Report, journals_of, WorkerLog, AreEndsOf, firsts_at_start, new_worker, with_workers, IsMadeOf, Step, IsAmong, steps_of, AreStepsChained, worker_state_after, at_some, AreEvents, ids_of, part-append, cleared_in}
use Rattle.shr_lawful.proofs.LineParts.{part_has}
use Rattle.shr_assemble.proofs.Filling.{none_left}
use Rattle.shr_model.proofs.Lists.{there_at}
use Rattle.shr_assemble.proofs.ScriptGroups.{sized_of}
use Rattle.shr_lawful.specs.Order.{IsInLine, IsOfWorker}
use Rattle.shr_assemble.proofs.EndsJournals.{proper}
use Rattle.shr_assemble.proofs.EndsSteps.{workers, is_crew, fit, is_of}
use Rattle.shr_lawful.proofs.Gathering.{mine_at, mine_is, after_along}
use Rattle.shr_assemble.proofs.Joined.{joined_list}
use Rattle.shr_lawful.proofs.Listed.{among_has, has_among, either}
use Rattle.shr_assemble.proofs.Rows.{DidEach}

-- ---- the deeds of seats
-- these were all done by this seat
abbrev IsBy : ℕ → List (Deed Event) → Type 0
IsBy j deeds = (acts : List Event) × (deeds ≡ by_seat j acts)

by_append : (j : ℕ) (a b : List Event) → by_seat j a ++ by_seat j b ≡ by_seat j (a ++ b)
by_append j [] b = refl
by_append j (x ∷ a) b = ap (λ (l : List (Deed Event)). record { seat = j; act = x } ∷ l) (by_append j a b)

-- more of the same seat
by_more : (j i : ℕ) (deeds : List (Deed Event)) (acts : List Event) → IsBy j deeds → i ≡ j → IsBy j (deeds ++ by_seat i acts)
by_more j i deeds acts h same = (h.0 ++ acts, ap (λ (l : List (Deed Event)). l ++ by_seat i acts) h.1 ∙ (ap (λ (n : ℕ). by_seat j h.0 ++ by_seat n acts) same ∙ by_append j h.0 acts))

part_same : (j : ℕ) (acts : List Event) → part j (by_seat j acts) ≡ by_seat j acts
part_same j [] = refl
part_same j (x ∷ acts) = let d : Deed Event = record { seat = j; act = x } in
    ap (λ (b : Bool). cond b (d ∷ part j (by_seat j acts)) (part j (by_seat j acts))) (eq-eqb j j refl) ∙ ap (λ (l : List (Deed Event)). d ∷ l) (part_same j acts)

part_other : (i j : ℕ) (acts : List Event) → i ≢ j → part j (by_seat i acts) ≡ []
part_other i j [] n = refl
part_other i j (x ∷ acts) n = let d : Deed Event = record { seat = i; act = x } in
    ap (λ (b : Bool). cond b (d ∷ part j (by_seat i acts)) (part j (by_seat i acts))) (ne_eqb i j n) ∙ part_other i j acts n

part_of : (j : ℕ) (deeds : List (Deed Event)) → IsBy j deeds → part j deeds ≡ deeds
part_of j deeds h = ap (part j) h.1 ∙ (part_same j h.0 ∙ sym h.1)

part_not : (i j : ℕ) (deeds : List (Deed Event)) → IsBy i deeds → i ≢ j → part j deeds ≡ []
part_not i j deeds h n = ap (part j) h.1 ∙ part_other i j h.0 n

-- ---- workers one after another, each with a seat of the next number
abbrev deeds_of : CrewState → List (Deed Event)
deeds_of w = w.seats.core.did

abbrev AreBy : ℕ → List CrewState → Type 0
AreBy from ws = (i : ℕ) (w : CrewState) → slice_get ws i ≡ Some w → IsBy (from + i) (deeds_of w)

rest_by : (from : ℕ) (w : CrewState) (ws : List CrewState) → AreBy from (w ∷ ws) → AreBy (from + 1) ws
rest_by from w ws own i v at = let same : from + suc i ≡ from + 1 + i = omega arith in subst (λ (n : ℕ). IsBy n (deeds_of v)) same (own (suc i) v at)

part_none : (from j : ℕ) (ws : List CrewState) → AreBy from ws → j < from → part j (flat_map deeds_of ws) ≡ []
part_none from j [] own lt = refl
part_none from j (w ∷ ws) own lt = part-append j (deeds_of w) (flat_map deeds_of ws)
    ∙ (ap (λ (l : List (Deed Event)). l ++ part j (flat_map deeds_of ws)) (part_not (from + 0) j (deeds_of w) (own 0 w refl) (λ e. omega (arith, e, lt)))
    ∙ part_none (from + 1) j ws (rest_by from w ws own) (omega (arith, lt)))

part_flat : (from : ℕ) (ws : List CrewState) → AreBy from ws → (i : ℕ) (v : CrewState) → slice_get ws i ≡ Some v → part (from + i) (flat_map deeds_of ws) ≡ deeds_of v
part_flat from [] own i v at = absurd (none-some v at)
part_flat from (w ∷ ws) own zero v at = part-append (from + 0) (deeds_of w) (flat_map deeds_of ws)
    ∙ (ap (λ (l : List (Deed Event)). l ++ part (from + 0) (flat_map deeds_of ws)) (part_of (from + 0) (deeds_of w) (own 0 w refl))
    ∙ (ap (λ (l : List (Deed Event)). deeds_of w ++ l) (part_none (from + 1) (from + 0) ws (rest_by from w ws own) (omega arith)) ∙ (append-nil (deeds_of w) ∙ ap deeds_of (same_Some w v at))))
part_flat from (w ∷ ws) own (suc i) v at = let same : from + suc i ≡ from + 1 + i = omega arith in
    part-append (from + suc i) (deeds_of w) (flat_map deeds_of ws)
    ∙ (ap (λ (l : List (Deed Event)). l ++ part (from + suc i) (flat_map deeds_of ws)) (part_not (from + 0) (from + suc i) (deeds_of w) (own 0 w refl) (λ e. omega (arith, e)))
    ∙ (ap (λ (n : ℕ). part n (flat_map deeds_of ws)) same ∙ part_flat (from + 1) ws (rest_by from w ws own) i v at))

-- ---- a worker's deeds are its seat's, and those of the opening the first seat's
by_chain : (j : ℕ) (t : WorkerState) (mine : List Step) → AreStepsChained t mine → t.core.seat ≡ j → IsBy j t.core.did → IsBy j (worker_state_after t mine).core.did
by_chain j t [] c seat h = h
by_chain j t (x ∷ mine) c seat h =
    let at : x.before.core.seat ≡ j = ap (λ (u : WorkerState). u.core.seat) c.0 ∙ seat in
    by_chain j x.after mine c.2 (c.1.core.seat ∙ at) (subst (IsBy j) (sym c.1.core.noted) (by_more j x.before.core.seat x.before.core.did c.1.core.did (subst (λ (u : WorkerState). IsBy j u.core.did) (sym c.0) h) at))

-- what a worker did up to the end of a step it did in the end
after_did : (t : WorkerState) (mine : List Step) (k : ℕ) (y : Step) → AreStepsChained t mine → slice_get mine k ≡ Some y → Begins y.after.core.did (worker_state_after t mine).core.did
after_did = after_along (λ s t. Begins s.core.did t.core.did) (λ s. begins_all s.core.did) (λ s t u. begins_more s.core.did t.core.did u.core.did) (λ x b. (by_seat x.before.core.seat b.core.did, b.core.noted))

-- the seat of a worker's steps is the worker's
first_seat : (t : WorkerState) (mine : List Step) (k : ℕ) (y : Step) → AreStepsChained t mine → slice_get mine k ≡ Some y → y.before.core.seat ≡ t.core.seat
first_seat t [] k y c e = absurd (none-some y e)
first_seat t (x ∷ mine) zero y c e = ap (λ (z : Step). z.before.core.seat) (sym (same_Some x y e)) ∙ ap (λ (u : WorkerState). u.core.seat) c.0
first_seat t (x ∷ mine) (suc k) y c e = first_seat x.after mine k y c.2 e ∙ (c.1.core.seat ∙ ap (λ (u : WorkerState). u.core.seat) c.0)

-- no bit was cleared by these deeds
abbrev ClearNone : List (Deed Event) → Type 0
ClearNone deeds = (d : Deed Event) → Has deeds d → cleared_in d.act ≡ []

clear_none : (j : ℕ) (acts : List Event) → among cleared_in acts ≡ [] → ClearNone (by_seat j acts)
clear_none j [] none d h = absurd h
clear_none j (a ∷ acts) none d (inl e) = ap (λ (y : Deed Event). cleared_in y.act) (sym e) ∙ (none_left (cleared_in a) (among cleared_in acts) none).0
clear_none j (a ∷ acts) none d (inr h) = clear_none j acts (none_left (cleared_in a) (among cleared_in acts) none).1 d h

-- what was done in the end was done by the end of a step, but for what was done before
done_by : (t : WorkerState) (mine : List Step) (d : Deed Event) → Has (worker_state_after t mine).core.did d → Has t.core.did d ⊎ ((k : ℕ) × (y : Step) × (slice_get mine k ≡ Some y) × Has y.after.core.did d)
done_by t [] d h = inl h
done_by t (x ∷ mine) d h = ⊎_elim (λ early. inr (0, x, refl, early)) (λ late. inr (suc late.0, late.1, late.2, late.3)) (done_by x.after mine d h)

has_part : (d : Deed Event) (j : ℕ) (line : List (Deed Event)) → Has (part j line) d → Has line d
has_part d j [] h = absurd h
has_part d j (y ∷ line) h = kept (has_part d j line) (y.seat == j) h where
  kept : (Has (part j line) d → Has line d) → (b : Bool) → Has (cond b (y ∷ part j line) (part j line)) d → Has (y ∷ line) d
  kept rest true (inl e) = inl e
  kept rest true (inr has) = inr (rest has)
  kept rest false has = inr (rest has)

record IsFirst (v : View) : Type 0 where
  seat : v.seat ≡ 0
  did : IsBy 0 v.did
  clears : ClearNone v.did

enters_if : (on : Bool) (decl : ℕ) (v w : View) → EntersIf on decl v w → IsFirst v → IsFirst w
enters_if true decl v w e h = let adds = e.gains.adds in record {
  seat = adds.seat ∙ h.seat;
  did = subst (IsBy 0) (sym adds.noted) (by_more 0 v.seat v.did adds.did h.did h.seat);
  clears = λ d has. either v.did (by_seat v.seat adds.did) d (subst (λ l. Has l d) adds.noted has) (h.clears d) (clear_none v.seat adds.did adds.kinds.cleared d);
}
enters_if false decl v w e h = subst IsFirst (sym e) h

entered : (caches : List CacheDecl) (n : ℕ) (w : View) → AreEntered caches n opener w → IsFirst w
entered caches zero w e = subst IsFirst (sym e) (record { seat = refl; did = ([], refl); clears = λ d none. absurd none })
entered caches (suc n) w (u, before, one) = enters_if (is_on (slice_get caches n)) n u w one (entered caches n u before)

module _ (x : Shared) (did : DidEach x) (logs : List WorkerLog) (e : Ends) (ends : AreEndsOf x logs e) (r : Report) (made : IsMadeOf x.script logs e r) where
  lasts_by : AreBy 1 ends.lasts
  lasts_by i w at =
      let crew = is_crew x did logs e ends r made in let workers_are = crew.workers_are in let lasts_are = crew.lasts_are in
      let within = slice_get_within ends.lasts i w at in
      let log = there_at logs i (omega (arith, within, lasts_are)) in
      let mine = there_at (workers x did logs e ends r made) i (omega (arith, within, workers_are, lasts_are)) in
      let row = crew.each i log.0 w mine.0 log.1 at mine.1 in
      subst (λ (u : WorkerState). IsBy (1 + i) u.core.did) row.ends (by_chain (1 + i) (new_worker ends.opened i).seats mine.0 row.chained refl ([], refl))

  -- all that the first seat has of a worker in the end is what the worker did
  own_part : (worker : ℕ) (w : CrewState) → slice_get ends.lasts worker ≡ Some w → part (1 + worker) (with_workers (firsts_at_start ends.opened ends.standing) ends.lasts).core.did ≡ deeds_of w
  own_part worker w at =
      let opened = entered x.script.caches.items (length x.script.caches.items) ends.opened ends.entered in
      ap (part (1 + worker)) (joined_list {A = Deed Event} (λ g. g.core.did) deeds_of (λ g w. refl) (firsts_at_start ends.opened ends.standing) ends.lasts)
      ∙ (part-append (1 + worker) ends.opened.did (flat_map deeds_of ends.lasts)
      ∙ (ap (λ (l : List (Deed Event)). l ++ part (1 + worker) (flat_map deeds_of ends.lasts)) (part_not 0 (1 + worker) ends.opened.did opened.did (λ q. omega (arith, q)))
      ∙ part_flat 1 ends.lasts lasts_by worker w at))

  -- the last state of a step's worker has what the worker did up to the step's end
  chain_of : (worker k : ℕ) (y : Step) → slice_get (steps_of (workers x did logs e ends r made) worker) k ≡ Some y
      → (w : CrewState) × (slice_get ends.lasts worker ≡ Some w) × Begins y.after.core.did (deeds_of w)
  chain_of worker k y at =
      let team = workers x did logs e ends r made in
      let crew = is_crew x did logs e ends r made in let workers_are = crew.workers_are in let lasts_are = crew.lasts_are in
      let mine = mine_at team worker k y at in
      let within = slice_get_within team worker (steps_of team worker) mine in
      let log = there_at logs worker (omega (arith, within, workers_are)) in
      let t = there_at ends.lasts worker (omega (arith, within, workers_are, lasts_are)) in
      let row = crew.each worker log.0 t.0 (steps_of team worker) log.1 t.1 mine in
      (t.0, t.1, subst (λ (u : WorkerState). Begins y.after.core.did u.core.did) row.ends (after_did (new_worker ends.opened worker).seats (steps_of team worker) k y row.chained at))

  -- a bit that was cleared a worker cleared
  clearings : (d : Deed Event) (place : ℕ) → IsAmong d ends.core.line → d.act ≡ cleared place → IsOfWorker (workers x did logs e ends r made) d
  clearings d place among is =
      let opened = entered x.script.caches.items (length x.script.caches.items) ends.opened ends.entered in
      let in_part : Has (part d.seat (with_workers (firsts_at_start ends.opened ends.standing) ends.lasts).core.did) d = subst (λ l. Has l d) (sym (ends.core.parts d.seat)) (part_has d d.seat ends.core.line refl (among_has ends.core.line d among)) in
      let in_view : Has (ends.opened.did ++ flat_map deeds_of ends.lasts) d = subst (λ l. Has l d) (joined_list {A = Deed Event} (λ g. g.core.did) deeds_of (λ g w. refl) (firsts_at_start ends.opened ends.standing) ends.lasts) (has_part d d.seat _ in_part) in
      either ends.opened.did (flat_map deeds_of ends.lasts) d in_view
      (λ first. absurd (let none : place ∷ [] ≡ [] = ap cleared_in (sym is) ∙ opened.clears d first in cc))
      (λ later. let w = flat_map_has deeds_of ends.lasts d later in of_last (has_among ends.lasts w.0 w.1).0 w.0 (at_some ends.lasts _ w.0 (has_among ends.lasts w.0 w.1).1) w.2) where
        seat_of : (j : ℕ) (deeds : List (Deed Event)) → IsBy j deeds → Has deeds d → d.seat ≡ j
        seat_of j deeds by has = let a = map_has (λ (act : Event). record { seat = j; act = act }) by.0 d (subst (λ l. Has l d) by.1 has) in ap (λ (z : Deed Event). z.seat) (sym a.2)

        of_last : (i : ℕ) (w : CrewState) → slice_get ends.lasts i ≡ Some w → Has (deeds_of w) d → IsOfWorker (workers x did logs e ends r made) d
        of_last i w at has =
            let team = workers x did logs e ends r made in
            let crew = is_crew x did logs e ends r made in let workers_are = crew.workers_are in let lasts_are = crew.lasts_are in
            let within = slice_get_within ends.lasts i w at in
            let log = there_at logs i (omega (arith, within, lasts_are)) in
            let mine = there_at team i (omega (arith, within, workers_are, lasts_are)) in
            let row = crew.each i log.0 w mine.0 log.1 at mine.1 in
            let acts = lasts_by i w at in
            ⊎_elim (λ none. absurd none)
            (λ t. record {
              worker = i;
              k = t.0;
              step = t.1;
              at = ap (λ l. slice_get l t.0) (mine_is team i mine.0 mine.1) ∙ t.2;
              seat = seat_of (1 + i) (deeds_of w) acts has;
              among = has_among t.1.after.core.did d t.3;
            })
            (done_by (new_worker ends.opened i).seats mine.0 d (subst (λ (u : WorkerState). Has u.core.did d) (sym row.ends) has))

  -- a worker uses no id where one of its steps begins
  free : (worker k : ℕ) (y : Step) → slice_get (steps_of (workers x did logs e ends r made) worker) k ≡ Some y → (i : ℕ) → times (1 + worker) (last_users y.before.core.did i) ≡ 0
  free worker k y at i =
      let f = fit x did logs e ends r made worker k y at in
      let seat : y.before.core.seat ≡ 1 + worker = first_seat (new_worker ends.opened worker).seats (steps_of (workers x did logs e ends r made) worker) k y ((is_of x did logs e ends r made worker).chained) at in
      ap (λ (n : ℕ). times n (last_users y.before.core.did i)) (sym seat) ∙ (f.using i ∙ ap (λ (o : Option ℕ). times i (ids_of o)) f.free)

  pub in_line : IsInLine x.script r (workers x did logs e ends r made)
  in_line = record {
    line = ends.core.line;
    events = subst (λ (n : ℕ). AreEvents x.script.ids n ends.core.line) ends.from_start.first (subst (λ (n : ℕ). AreEvents n x.core.setting.first_lookup ends.core.line) ends.shared.ids ends.core.events);
    parts = λ worker k y at. let c = chain_of worker k y at in subst (Begins y.after.core.did) (sym (own_part worker c.0 c.1) ∙ ends.core.parts (1 + worker)) c.2;
    own = ends.core.own;
    uses = ends.core.uses;
    free = free;
    listed = λ place there. let sized = sized_of x ends.shared in let nodes = sized.nodes in let groups = sized.groups in let on = there.node in let in_group = there.group in
        subst (λ (n : ℕ). (last_moment n ends.core.line).now (place_number place) ≡ journals_of r place) ends.from_start.first
        (ends.core.ends.journals (place_number place) ∙ sym (proper x ends.shared r (with_workers (firsts_at_start ends.opened ends.standing) ends.lasts).core e.core ends.core made.places place (omega (arith, nodes, on)) (omega (arith, groups, in_group))));
    registered = subst (λ (n : ℕ). (last_moment n ends.core.line).pool ≡ r.pool.items) ends.from_start.first (ends.core.ends.registrations ∙ sym made.pool);
    clearings = clearings;
  }
