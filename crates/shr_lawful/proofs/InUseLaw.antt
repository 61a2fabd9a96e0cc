-- SPDX-License-Identifier: GPL-2.0-only
-- In a run what is done on an id's lists stands in its use, a list is drained while its id is dying, and an id comes to be idle
-- with empty lists: what the line says of it, by the ranks of what is told.
use Rattle.shr_lawful.proofs.Common.{◌≡◌, ℕ, ◌+◌, ◌<◌, ◌≤◌, ⊎_elim, take, List, [], ◌∷◌, ◌++◌, length, map, get_or, sym, refl, ap, subst, ◌∙◌, arith, slice_get, Some, same_Some, none-some, slice_get_within, slice_get-get_or, dite, ℕ_discrete, dec_lt, some, get_elem?, Entry, Add, Scan, Drained, PoolEntry, Registered, Idle, Place, Serial, Script, place_number, decl_at, registrations, Has, Has_map, Contains_from_Has, Deed, by_seat, part, times, among, place_id, Event, Tried, Turn, made, looked, turned, last_users, so_before, Report, journals_of, decls_on, IsThere, Told, entry, lookup, turn, count, looked_by, HasAt, IsBy, number_made, IsRun, Step, IsAmong, steps_of, Holders, no_holders, users_next, IsMadeInUse, IsOutOfUse, IsOfUse, IsDrainedEntry, EndsUse, IsEntryInUse, take-append_seam}
use Rattle.shr_core.specs.Order as order
use Rattle.shr_core.proofs.InUse.{users_before, IsUsing, since_lookup, by_part}
use Rattle.shr_lawful.proofs.Gathering.{each_among, among_right, work_of}
use Rattle.shr_lawful.proofs.LineParts.{front_of, back_of, at_below, by_seat_at, attempts_has, part_seat, own_spot, part_before}
use Rattle.shr_lawful.proofs.OneOrderLaw.{opened, rank, looked_are, lookup_ranked, by_step, stands}
use Rattle.shr_lawful.proofs.Listed.{has_among, among_has}
use Rattle.shr_lawful.proofs.Spots.{spot_of, spot_there, spots_rise}

-- ---- what the line says of an entry
used_by : (u : Holders) (seat id : ℕ) (e : Entry) → IsOfUse e → IsMadeInUse u seat id e → 0 < times seat (u id)
used_by u seat id (Add by birth added key value) h m = m
used_by u seat id (Scan worker walk asked policy visits freed stopped) h m = m
used_by u seat id e h m = absurd h

unused_at : (u : Holders) (seat id : ℕ) (e : Entry) → IsDrainedEntry e → IsMadeInUse u seat id e → u id ≡ []
unused_at u seat id (Drained by objects) h m = m
unused_at u seat id e h m = absurd h

-- a registration isn't an end
pub not_idle : (decl id from i : ℕ) → ◌≡◌ {A = PoolEntry} (Registered decl id from) (Idle i) → ⊥
not_idle decl id from i e = cc

module _ (s : Script) (r : Report) (workers : List (List Step)) (run : IsRun s r workers) where
  -- the line, and the rank of what is told
  abbrev line : List (Deed Event)
  line = run.order.line

  abbrev rank_of : Told → ℕ
  rank_of x = rank s r workers run x

  abbrev first : ℕ
  first = opened s r workers run

  -- each event of it is done in the use of its id
  used_at : (c : ℕ) (d : Deed Event) → get_elem? line c ≡ some d → order.IsInUse (users_before line c) d.seat d.act
  used_at c d at = so_before users_next (λ u y. order.IsInUse u y.seat y.act) no_holders line c d run.order.uses at

  pub id_there : (place : Place) → IsThere s place → place_id (place_number place) ≡ place.id
  id_there place there = let nodes = run.sized.nodes in let groups = run.sized.groups in let n = there.node in let g = there.group in omega (arith, nodes, groups, n, g)

  pub there_at : (place : Place) (n : ℕ) (e : Entry) → slice_get (journals_of r place) n ≡ Some e → IsThere s place
  there_at place n e at = let within = slice_get_within (journals_of r place) n e at in run.journals.there place (omega (arith, within))

  -- ---- the lookup by which a worker uses an id is one of the same command
  -- by what the worker did before the command it uses none
  none_before : (worker k : ℕ) (x : Step) → slice_get (steps_of workers worker) k ≡ Some x → (d : Deed Event) → get_elem? (part (1 + worker) line) (length x.before.core.did) ≡ some d → (i : ℕ)
      → times (1 + worker) (users_before line (spot_of (1 + worker) line (length x.before.core.did)) i) ≡ 0
  none_before worker k x at d there i =
      let j : ℕ = 1 + worker in
      let before : List (Deed Event) = x.before.core.did in
      let c : ℕ = spot_of j line (length before) in
      let parts = run.order.parts worker k x at in
      let work = (work_of s r workers run worker k x at).core in
      let all : part j line ≡ before ++ (by_seat x.before.core.seat work.did ++ parts.0) = parts.1 ∙ (ap (λ (l : List (Deed Event)). l ++ parts.0) work.noted ∙ append_three before (by_seat x.before.core.seat work.did) parts.0) in
      by_part j i (take c line)
      ∙ (ap (λ (l : List (Deed Event)). times j (last_users l i)) (part_before j line (length before) d there ∙ (ap (take (length before)) all ∙ take-append_seam before (by_seat x.before.core.seat work.did ++ parts.0)))
      ∙ run.order.free worker k x at i) where
        append_three : (xs ys zs : List (Deed Event)) → (xs ++ ys) ++ zs ≡ xs ++ (ys ++ zs)
        append_three [] ys zs = refl
        append_three (x ∷ xs) ys zs = ap (λ (l : List (Deed Event)). x ∷ l) (append_three xs ys zs)

  tried_in : (worker k : ℕ) (x : Step) → slice_get (steps_of workers worker) k ≡ Some x → (q : ℕ) → length x.before.core.did ≤ q → q < length x.after.core.did → (d : Deed Event) → get_elem? (part (1 + worker) line) q ≡ some d
      → (i : ℕ) (w : IsUsing line (1 + worker) i (spot_of (1 + worker) line q)) → IsAmong w.try x.work.core.attempts
  tried_in worker k x at q from to d there i w =
      let j : ℕ = 1 + worker in
      let look : Deed Event = record { seat = j; act = looked w.try } in
      let own = own_spot j line w.at look w.stands refl in
      let p : ℕ = own.0 in
      let late : length x.before.core.did ≤ p = dite (dec_lt p (length x.before.core.did)) (λ lt. absurd (early p own.2 lt)) (λ no. omega (arith, no)) in
      let soon : p < q = dite (dec_lt p q) (λ lt. lt) (λ no. absurd (behind_it p own.1 own.2 (omega (arith, no)))) in
      let parts = run.order.parts worker k x at in
      let work = (work_of s r workers run worker k x at).core in
      let in_step : get_elem? x.after.core.did p ≡ some look = front_of x.after.core.did parts.0 p look (omega (arith, soon, to)) (ap (λ (l : List (Deed Event)). get_elem? l p) (sym parts.1) ∙ own.1) in
      let mine = back_of x.before.core.did (by_seat x.before.core.seat work.did) p look late (ap (λ (l : List (Deed Event)). get_elem? l p) (sym work.noted) ∙ in_step) in
      let event = by_seat_at x.before.core.seat work.did mine.0 look mine.1 in
      has_among x.work.core.attempts w.try (subst (λ (l : List Tried). Has l w.try) work.kinds.attempts (attempts_has work.did mine.0 w.try (event.1 ∙ ap some event.2))) where
        early : (p : ℕ) → spot_of (1 + worker) line p ≡ w.at → p < length x.before.core.did → ⊥
        early p is lt =
            let j : ℕ = 1 + worker in
            let l = at_below (part j line) (length x.before.core.did) q d there from in
            let after = spots_rise j line p (length x.before.core.did) l.0 l.1 lt in
            let upto : spot_of j line (length x.before.core.did) ≤ spot_of j line q = dite (ℕ_discrete (length x.before.core.did) q)
            (λ e. let same = ap (spot_of j line) e in omega (arith, same))
            (λ n. let up = spots_rise j line (length x.before.core.did) q d there (omega (arith, from, n)) in omega (arith, up)) in
            let uses = w.since (spot_of j line (length x.before.core.did)) (omega (arith, after, is)) upto in
            let none = none_before worker k x at l.0 l.1 i in
            absurd (omega (arith, uses, none))

        behind_it : (p : ℕ) → get_elem? (part (1 + worker) line) p ≡ some (record { seat = 1 + worker; act = looked w.try }) → spot_of (1 + worker) line p ≡ w.at → q ≤ p → ⊥
        behind_it p own is le =
            let j : ℕ = 1 + worker in
            let before = w.behind in
            dite (ℕ_discrete q p)
            (λ e. let same = ap (spot_of j line) e in absurd (omega (arith, before, is, same)))
            (λ n. let up = spots_rise j line q p (record { seat = j; act = looked w.try }) own (omega (arith, le, n)) in absurd (omega (arith, before, is, up)))

  -- ---- what ends the use of an id stands before the lookup or behind what is done in it
  unused_turn : (u : Holders) (seat id : ℕ) (t : Turn) → t.entry ≡ Idle id → order.IsInUse u seat (turned t) → u id ≡ []
  unused_turn u seat id t is h = subst (IsOutOfUse u) is h

  -- no seat uses the id where its use ends
  ends_at : (id : ℕ) (x : Told) → EndsUse r id x → (c : ℕ) × (users_before line c id ≡ []) × (rank_of x ≡ first + c)
  ends_at id (entry q k) h = ⊎_elim
      (λ start. absurd (not_turn start.0 start.1))
      (λ t. let m = t.says in
      let same : m.0.entry ≡ h.1.0 = same_Some m.0.entry h.1.0 (sym m.4 ∙ h.1.1) in
      let own : place_id m.0.place ≡ id = ap place_id m.2 ∙ (id_there q (there_at q k h.1.0 h.1.1) ∙ h.0) in
      let used = subst (order.IsInUse (users_before line t.index) t.deed.seat) m.1 (used_at t.index t.deed t.there) in
      (t.index, ap (users_before line t.index) (sym own) ∙ unused_at (users_before line t.index) t.deed.seat (place_id m.0.place) m.0.entry (subst IsDrainedEntry (sym same) h.1.2) used, t.is))
      (stands s r workers run (entry q k) (h.1.0, h.1.1, tt)) where
        not_turn : (n : ℕ) → entry q k ≡ turn n → ⊥
        not_turn n e = cc
  ends_at id (turn k) h = ⊎_elim
      (λ start. absurd (let lt = start.2 in let number = number_is start.0 start.1 in first_idle (omega (arith, lt, number))))
      (λ t. let m = t.says in
      let is : m.0.entry ≡ Idle id = same_Some m.0.entry h.0 (sym m.3 ∙ h.1) ∙ h.2 in
      (t.index, unused_turn (users_before line t.index) t.deed.seat id m.0 is (subst (order.IsInUse (users_before line t.index) t.deed.seat) m.1 (used_at t.index t.deed t.there)), t.is))
      (stands s r workers run (turn k) (h.0, h.1, tt)) where
        number_is : (n : ℕ) → turn k ≡ turn n → k ≡ n
        number_is n e = cc

        first_idle : k < first → ⊥
        first_idle lt =
            let decl : ℕ = get_or (decls_on s) k 0 in
            not_idle decl k 0 id (same_Some (Registered decl k 0) (Idle id) (sym (run.pool.opened k decl (slice_get-get_or (decls_on s) k 0 lt)) ∙ (h.1 ∙ ap (λ (e : PoolEntry). Some e) h.2)))
  ends_at id (lookup i n) h = absurd h
  ends_at id (count w n) h = absurd h

  ends_behind : (j id b : ℕ) (w : IsUsing line j id b) (x : Told) → EndsUse r id x → first + w.at < rank_of x → first + b < rank_of x
  ends_behind j id b w x ends after =
      let t = ends_at id x ends in let is = t.2 in
      dite (dec_lt b t.0) (λ lt. omega (arith, lt, is))
      (λ no. let uses = w.since t.0 (omega (arith, after, is)) (omega (arith, no)) in absurd (omega (arith, uses, ap (λ (l : List ℕ). times j l) t.1)))

  -- a lookup of a step was held if its number lies in a registration
  met : (worker k : ℕ) (x : Step) → slice_get (steps_of workers worker) k ≡ Some x → (t : Tried) → IsAmong t x.work.core.attempts → (id : ℕ) → t.id ≡ id → t.held ≡ decl_at t.number (registrations id r.pool.items)
  met worker k x at t among id own =
      let work = (work_of s r workers run worker k x at).core in
      let known = each_among (λ (a : Tried). (a.id < s.ids) × (a.held ≡ decl_at a.number (registrations a.id r.pool.items))) x.after.core.claims.attempts t (run.steps.shown worker k x at).tried
      (subst (λ (l : List Tried). IsAmong t l) (sym work.attempts) (among_right x.before.core.claims.attempts x.work.core.attempts t among)) in
      known.1 ∙ ap (λ (i : ℕ). decl_at t.number (registrations i r.pool.items)) own

  -- ---- an add of a command, or a scan, is made in its use
  pub used : (place : Place) (n : ℕ) (by : Serial) → HasAt (journals_of r place) n IsOfUse → IsBy r by (entry place n) → IsEntryInUse r rank_of by place n
  used place n by told own =
      let t = by_step s r workers run (entry place n) by.worker by.command own in
      let j : ℕ = 1 + by.worker in
      let b : ℕ = spot_of j line t.spot in
      let here = spot_there j line t.spot t.deed t.there in
      let m = t.says in
      let same : m.0.entry ≡ told.0 = same_Some m.0.entry told.0 (sym m.4 ∙ told.1) in
      let id : place_id m.0.place ≡ place.id = ap place_id m.2 ∙ id_there place (there_at place n told.0 told.1) in
      let seat : t.deed.seat ≡ j = part_seat j line t.spot t.deed t.there in
      let in_use : order.IsInUse (users_before line b) j (made m.0) = subst (order.IsInUse (users_before line b) j) m.1 (subst (λ (k : ℕ). order.IsInUse (users_before line b) k t.deed.act) seat (used_at b t.deed here)) in
      let uses : 0 < times j (users_before line b place.id) = subst (λ (i : ℕ). 0 < times j (users_before line b i)) id (used_by (users_before line b) j (place_id m.0.place) m.0.entry (subst IsOfUse (sym same) told.2) in_use) in
      let w = since_lookup line j place.id b uses in
      let among = tried_in by.worker by.command t.step t.at t.spot t.from t.to t.deed t.there place.id w in
      let looks : rank_of (lookup place.id w.try.number) ≡ first + w.at = lookup_ranked s r workers run place.id w.try.number w.try w.own refl w.at (record { seat = j; act = looked w.try }) w.stands refl in
      let is = t.is in let before = w.behind in
      record {
        number = w.try.number;
        looked = Contains_from_Has (looked_by r by) (place.id, w.try.number)
            (subst (λ (l : List (ℕ × ℕ)). Has l (place.id, w.try.number)) (sym (looked_are s r workers run by.worker by.command t.step t.at))
            (subst (λ (i : ℕ). Has (map number_made t.step.work.core.attempts) (i, w.try.number)) w.own (Has_map number_made t.step.work.core.attempts w.try (among_has t.step.work.core.attempts w.try among))));
        registered = λ none. none-some w.decl (sym none ∙ (sym (met by.worker by.command t.step t.at w.try among place.id w.own) ∙ w.held));
        behind = omega (arith, looks, is, before);
        before = λ x ends lt. let up = ends_behind j place.id b w x ends (omega (arith, lt, looks)) in omega (arith, up, is);
      }
