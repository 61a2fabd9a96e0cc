-- SPDX-License-Identifier: GPL-2.0-only
-- What the report of a run tells is in one order: that of the events in the line of all that the workers did.
use Rattle.shr_lawful.proofs.Common.{◌≡◌, ◌≢◌, ◌⊎◌, ℕ, zero, suc, ◌+◌, ◌<◌, ◌≤◌, inl, inr, ⊎_elim, Bool, true, cond, List, [], ◌∷◌, ◌++◌, length, map, get_or, sym, refl, ap, subst, ◌∙◌, arith, eqb, eq-eqb, slice_get, Option, Some, None, nat_lt, flat_map, option_map, option_to_list, Contains, IsSomeAnd, and_from, lt-ltb, append-nil, same_Some, none-some, slice_get-get_or, dite, ℕ_discrete, dec_lt, some, some-injective, some-ne-none, get_elem?, Entry, Scan, MovedIn, Closed, PoolEntry, Registered, Place, Serial, Answered, Reply, Script, WalkRecord, place_number, Has, Has_from_Contains, map_has, Deed, by_seat, acts_of, at_begins, among, seen_in, attempts_in, Event, Made, Tried, Turn, counted, made, looked, turned, EventTells, back, Report, IsMadeBy, serial_of, decls_on, answer_at, reply_at, walks_by, journals_of, entry_by, Told, entry, lookup, turn, count, Counting, ToldMeasure, entries, lookups, turns, looked_by, countings_of, HasAt, IsBy, TurnTells, MayMakeEntry, number_made, IsRun, Step, IsAmong, steps_of, some_at, ReportTells, TellsOf}
use Rattle.shr_core.proofs.Unregistering.{there as at_less}
use Rattle.shr_model.proofs.Lists.{there_at}
use Rattle.shr_core.specs.Ranks as core
use Rattle.shr_core.proofs.Ranking as ranking
use Rattle.shr_laws.specs.OneOrder.{numbers_tried, number_found}
use Rattle.shr_lawful.proofs.CountsTold.{at_behind, mine, count_spot, CountAt, count_at, one_seen}
use Rattle.shr_lawful.proofs.EventsTold.{is_entry, is_lookup, is_turn, entry_tells, lookup_tells, turn_tells, alone, core_of, one_try, not_below, registered, registered_flat}
use Rattle.shr_lawful.proofs.FreshLaw.{step_cases, begins_length}
use Rattle.shr_lawful.proofs.Gathering.{first_grows, work_of, answer_is, reply_is, maker, each_among}
use Rattle.shr_lawful.proofs.Listed.{slice_map, has_among, among_has}
use Rattle.shr_lawful.proofs.IsolationSteps.{scanned_by, visited_by}
use Rattle.shr_lawful.proofs.LineOrder.{has_made, looked_in, has_looked, has_turned, later_did}
use Rattle.shr_lawful.proofs.JournalsLaw.{turn_stands, turn_maker}
use Rattle.shr_lawful.proofs.PoolPast.{turn_by}
use Rattle.shr_lawful.proofs.Spots.{spot_of, spot_there, spots_rise, first_of, Passes, first_there, kind_spot, kind_there, kinds_rise}
use Rattle.shr_lawful.proofs.WalksLaw.{walks_are}

module _ (s : Script) (r : Report) (workers : List (List Step)) (run : IsRun s r workers) where
  -- an event is that of what is told
  abbrev pub Says : Told → Event → Type 0
  Says (entry place n) e = (m : Made) × (e ≡ made m) × (m.place ≡ place_number place) × (m.number ≡ n) × (slice_get (journals_of r place) n ≡ Some m.entry)
  Says (lookup id n) e = (t : Tried) × (e ≡ looked t) × (t.id ≡ id) × (t.number ≡ n)
  Says (turn n) e = (t : Turn) × (e ≡ turned t) × (t.number ≡ n) × (slice_get r.pool.items n ≡ Some t.entry)
  Says (count worker n) e = HasAt (countings_of r worker) n (λ (c : Counting). e ≡ counted (record { place = place_number c.place; len = c.seen.len; version = c.seen.version }))

  -- it tells what the report tells
  tells : (m : ToldMeasure) (x : Told) (e : Event) (low high : ℕ) → Says x e → TellsOf r m x low high → EventTells (core_of m) e low high
  tells (entries p) (entry place n) e low high is t = subst (λ (z : Event). EventTells (core.entries (place_number p)) z low high) (sym is.1) (is.2 ∙ ap place_number t.0, t.1 ∙ sym is.3, t.2 ∙ ap (λ i. i + 1) (sym is.3))
  tells (entries p) (count worker n) e low high is t =
      let same : is.0 ≡ t.0 = same_Some is.0 t.0 (sym is.1 ∙ t.1) in
      subst (λ (z : Event). EventTells (core.entries (place_number p)) z low high) (sym is.2)
      (ap (λ (c : Counting). place_number c.place) same ∙ ap place_number t.2.0, t.2.1 ∙ ap (λ (c : Counting). c.seen.version) (sym same), t.2.2 ∙ ap (λ (c : Counting). c.seen.version) (sym same))
  tells (lookups i) (lookup id n) e low high is t = subst (λ (z : Event). EventTells (core.lookups i) z low high) (sym is.1) (is.2 ∙ t.0, t.1 ∙ sym is.3, t.2 ∙ ap (λ j. j + 1) (sym is.3))
  tells (lookups i) (turn n) e low high is t =
      let same : t.0 ≡ is.0.entry = same_Some t.0 is.0.entry (sym t.1 ∙ is.3) in
      subst (λ (z : Event). EventTells (core.lookups i) z low high) (sym is.1) (registered i low high is.0.entry (subst (TurnTells i low high) same t.2))
  tells turns (turn n) e low high is t = subst (λ (z : Event). EventTells core.turns z low high) (sym is.1) (t.0 ∙ sym is.2, t.1 ∙ ap (λ j. j + 1) (sym is.2))
  tells m x e low high is t = absurd t

  -- two that tell the same numbers of one measure, with something between them, are one
  not_same : (m : ToldMeasure) (x y : Told) (low high low' high' : ℕ) → TellsOf r m x low high → TellsOf r m y low' high' → low ≡ low' → high ≡ high' → low < high' → x ≢ y → ⊥
  not_same (entries p) (entry a i) (entry b j) low high low' high' t u l h less apart =
      let place_is : a ≡ b = t.0 ∙ sym u.0 in let same : i ≡ j = sym t.1 ∙ (l ∙ u.1) in apart (λ d. entry (place_is d) (same d))
  not_same (entries p) (entry a i) (count w j) low high low' high' t u l h less apart = let flat : low' ≡ high' = u.2.1 ∙ sym u.2.2 in absurd (omega (arith, less, l, flat))
  not_same (entries p) (entry a i) y low high low' high' t u l h less apart = absurd u
  not_same (entries p) (count w i) y low high low' high' t u l h less apart = let flat : low ≡ high = t.2.1 ∙ sym t.2.2 in absurd (omega (arith, less, h, flat))
  not_same (lookups id) (lookup a i) (lookup b j) low high low' high' t u l h less apart =
      let id_is : a ≡ b = t.0 ∙ sym u.0 in let same : i ≡ j = sym t.1 ∙ (l ∙ u.1) in apart (λ d. lookup (id_is d) (same d))
  not_same (lookups id) (lookup a i) (turn j) low high low' high' t u l h less apart = let flat = registered_flat id low' high' u.0 u.2 in absurd (omega (arith, less, l, flat))
  not_same (lookups id) (lookup a i) y low high low' high' t u l h less apart = absurd u
  not_same (lookups id) (turn i) y low high low' high' t u l h less apart = let flat = registered_flat id low high t.0 t.2 in absurd (omega (arith, less, h, flat))
  not_same turns (turn i) (turn j) low high low' high' t u l h less apart = apart (ap turn (sym t.0 ∙ (l ∙ u.0)))
  not_same turns (turn i) y low high low' high' t u l h less apart = absurd u
  not_same m x y low high low' high' t u l h less apart = absurd t

  -- ---- ranks
  -- the entries of the caches that are `on` stand before all that the workers did
  abbrev pub opened : ℕ
  opened = length (decls_on s)

  abbrev pub rank : Told → ℕ
  rank (entry place n) = opened + first_of (is_entry (place_number place) n) run.order.line
  rank (lookup id n) = opened + first_of (is_lookup id n) run.order.line
  rank (turn n) = cond (nat_lt n opened) n (opened + first_of (is_turn n) run.order.line)
  rank (count worker n) = opened + spot_of (1 + worker) run.order.line (count_spot s r workers run worker n)

  -- an event that tells a number stands alone
  first_is : (m : core.Measure) (n : ℕ) (test : Event → Bool) → ((e : Event) → test e ≡ true → EventTells m e n (n + 1)) → (i : ℕ) → Passes test run.order.line i → first_of test run.order.line ≡ i
  first_is m n test each i p =
      let f = first_there test run.order.line i p in
      let a = ranking.by_numbers s.ids 0 run.order.line run.order.events i (first_of test run.order.line) p.0 f.0 p.1 f.1 m n (n + 1) n (n + 1) (each p.0.act p.2) (each f.0.act f.2) (omega arith) in
      let b = ranking.by_numbers s.ids 0 run.order.line run.order.events (first_of test run.order.line) i f.0 p.0 f.1 p.1 m n (n + 1) n (n + 1) (each f.0.act f.2) (each p.0.act p.2) (omega arith) in
      omega (arith, a, b)

  -- where what is told stands among what its worker did in a command
  pub record OfStep (x : Told) (worker k : ℕ) : Type 0 where
    pub step : Step
    pub at : slice_get (steps_of workers worker) k ≡ Some step
    pub spot : ℕ
    pub from : length step.before.core.did ≤ spot
    pub to : spot < length step.after.core.did
    pub deed : Deed Event
    pub there : get_elem? (mine s r workers run worker) spot ≡ some deed
    pub says : Says x deed.act
    pub is : rank x ≡ opened + spot_of (1 + worker) run.order.line spot

  -- the rank of one whose event stands here
  abbrev pub IsRanked : Told → Event → Type 0
  IsRanked x e = (i : ℕ) (d : Deed Event) → get_elem? run.order.line i ≡ some d → d.act ≡ e → rank x ≡ opened + i

  -- an event of a step, by where it stands among the step's
  at_step : (x : Told) (worker k : ℕ) (y : Step) (at : slice_get (steps_of workers worker) k ≡ Some y) (e : Event) (p : ℕ) → get_elem? (work_of s r workers run worker k y at).core.did p ≡ some e
      → Says x e → IsRanked x e → OfStep x worker k
  at_step x worker k y at e p has says ranked =
      let work = (work_of s r workers run worker k y at).core in
      let deed : Deed Event = record { seat = y.before.core.seat; act = e } in
      let here : get_elem? y.after.core.did (length y.before.core.did + p) ≡ some deed =
      ap (λ l. get_elem? l (length y.before.core.did + p)) work.noted ∙ at_behind y.before.core.did (by_seat y.before.core.seat work.did) p deed (seated work.did p has) in
      let there : get_elem? (mine s r workers run worker) (length y.before.core.did + p) ≡ some deed = at_begins y.after.core.did (mine s r workers run worker) (length y.before.core.did + p) deed (run.order.parts worker k y at) here in
      record {
        step = y;
        at = at;
        spot = length y.before.core.did + p;
        from = omega arith;
        to = at_less y.after.core.did (length y.before.core.did + p) deed here;
        deed = deed;
        there = there;
        says = says;
        is = ranked (spot_of (1 + worker) run.order.line (length y.before.core.did + p)) deed (spot_there (1 + worker) run.order.line (length y.before.core.did + p) deed there) refl;
      } where
        seated : (es : List Event) (i : ℕ) → get_elem? es i ≡ some e → get_elem? (by_seat y.before.core.seat es) i ≡ some (record { seat = y.before.core.seat; act = e })
        seated [] i q = absurd (some-ne-none e (sym q))
        seated (f ∷ fs) zero q = ap (λ (a : Event). some (record { seat = y.before.core.seat; act = a })) (some-injective f e q)
        seated (f ∷ fs) (suc i) q = seated fs i q

  of_step : (x : Told) (worker k : ℕ) (y : Step) (at : slice_get (steps_of workers worker) k ≡ Some y) (e : Event) → Has (work_of s r workers run worker k y at).core.did e → Says x e → IsRanked x e → OfStep x worker k
  of_step x worker k y at e has says ranked = let a = has_among (work_of s r workers run worker k y at).core.did e has in at_step x worker k y at e a.0 a.1 says ranked

  -- ---- entries of lists
  -- an entry of a command is of the step that made it
  step_by : (worker k : ℕ) (x : Step) (m : Made) (e : Entry) (b : Serial) → slice_get (steps_of workers worker) k ≡ Some x → IsAmong m x.work.core.made → m.entry ≡ e → MayMakeEntry s x m e → entry_by r e ≡ Some b → x.by ≡ b
  step_by worker k x m (Scan w n asked policy visits freed stopped) b at has here may is = ⊎_elim
      (λ t. same_Some x.by b (sym (scanned_by s r workers run worker k x m w n at t) ∙ is))
      (λ t. same_Some x.by b (sym (visited_by s r workers run worker k x m w n asked visits freed policy stopped at t has here) ∙ is)) may
  step_by worker k x m (MovedIn child objects) b at has here may is = absurd (none-some b is)
  step_by worker k x m Closed b at has here may is = absurd (none-some b is)
  step_by worker k x m e b at has here may is = sym may.own ∙ same_Some _ b is

  pub entry_ranked : (place : Place) (n : ℕ) (m : Made) → m.place ≡ place_number place → m.number ≡ n → IsRanked (entry place n) (made m)
  entry_ranked place n m here number i d at act = ap (λ j. opened + j) (first_is (core.entries (place_number place)) n (is_entry (place_number place) n) (entry_tells (place_number place) n) i
      (d, at, ap (is_entry (place_number place) n) act ∙ and_from (eqb m.place (place_number place)) (eqb m.number n) (eq-eqb m.place (place_number place) here) (eq-eqb m.number n number)))

  pub record EntryStep (place : Place) (n : ℕ) (e : Entry) : Type 0 where
    pub worker : ℕ
    pub k : ℕ
    pub of : OfStep (entry place n) worker k
    pub by : (b : Serial) → entry_by r e ≡ Some b → serial_of worker k ≡ b

  pub entry_step : (place : Place) (n : ℕ) (e : Entry) → slice_get (journals_of r place) n ≡ Some e → EntryStep place n e
  entry_step place n e stands =
      let t = maker s r workers run place n e stands in
      let work = (work_of s r workers run t.worker t.k t.step t.at).core in
      let may = each_among (λ (m : Made). MayMakeEntry s t.step m m.entry) t.step.work.core.made t.made (run.steps.each t.worker t.k t.step t.at).did.entries.each t.among in
      let here : t.made.place ≡ place_number place = sym (back t.made.place) ∙ ap place_number t.place_is in
      record {
        worker = t.worker;
        k = t.k;
        of = of_step (entry place n) t.worker t.k t.step t.at (made t.made) (has_made work.did t.made (subst (λ (l : List Made). Has l t.made) (sym work.kinds.made) (among_has t.step.work.core.made t.made t.among)))
            (t.made, refl, here, t.number, stands ∙ ap Some (sym t.entry)) (entry_ranked place n t.made here t.number);
        by = λ b is. sym (run.steps.each t.worker t.k t.step t.at).by ∙ step_by t.worker t.k t.step t.made e b t.at t.among t.entry (subst (MayMakeEntry s t.step t.made) t.entry may) is;
      }

  -- ---- lookups
  pub looked_are : (worker k : ℕ) (x : Step) → slice_get (steps_of workers worker) k ≡ Some x → looked_by r (serial_of worker k) ≡ map number_made x.work.core.attempts
  looked_are worker k x at =
      ap (λ o. flat_map (λ (a : Answered). flat_map numbers_tried (walks_by r (serial_of worker k)) ++ number_found a.found) (option_to_list o)) (answer_is s r workers run worker k x at)
      ∙ (append-nil (flat_map numbers_tried (walks_by r (serial_of worker k)) ++ number_found x.answered.found)
      ∙ (ap (λ (ws : List WalkRecord). flat_map numbers_tried ws ++ number_found x.answered.found) (walks_are s r workers run worker k x at)
      ∙ sym (run.steps.each worker k x at).did.lookups.numbers))

  looked_none : (by : Serial) → answer_at r by ≡ None → looked_by r by ≡ []
  looked_none by e = ap (λ o. flat_map (λ (a : Answered). flat_map numbers_tried (walks_by r by) ++ number_found a.found) (option_to_list o)) e

  pub lookup_ranked : (id n : ℕ) (t : Tried) → t.id ≡ id → t.number ≡ n → IsRanked (lookup id n) (looked t)
  lookup_ranked id n t own number i d at act = ap (λ j. opened + j) (first_is (core.lookups id) n (is_lookup id n) (lookup_tells id n) i
      (d, at, ap (is_lookup id n) act ∙ and_from (eqb t.id id) (eqb t.number n) (eq-eqb t.id id own) (eq-eqb t.number n number)))

  lookup_step : (worker k id n : ℕ) → Contains (looked_by r (serial_of worker k)) (id, n) → OfStep (lookup id n) worker k
  lookup_step worker k id n h = let has = Has_from_Contains (looked_by r (serial_of worker k)) (id, n) h in ⊎_elim
      (λ x. let work = (work_of s r workers run worker k x.0 x.1).core in
      let t = map_has number_made x.0.work.core.attempts (id, n) (subst (λ l. Has l (id, n)) (looked_are worker k x.0 x.1) has) in
      let own : t.0.id ≡ id = ap (λ (p : ℕ × ℕ). p.0) t.2 in let number : t.0.number ≡ n = ap (λ (p : ℕ × ℕ). p.1) t.2 in
      of_step (lookup id n) worker k x.0 x.1 (looked t.0) (has_looked work.did t.0 (subst (λ (l : List Tried). Has l t.0) (sym work.kinds.attempts) t.1)) (t.0, refl, own, number) (lookup_ranked id n t.0 own number))
      (λ none. absurd (subst (λ l. Has l (id, n)) (looked_none (serial_of worker k) none) has)) (step_cases s r workers run worker k)

  -- ---- the journal of registrations
  past_opened : (n : ℕ) → opened ≤ n → rank (turn n) ≡ opened + first_of (is_turn n) run.order.line
  past_opened n le = ap (λ b. cond b n (opened + first_of (is_turn n) run.order.line)) (not_below n opened le)

  turn_ranked : (n : ℕ) (t : Turn) → opened ≤ n → t.number ≡ n → IsRanked (turn n) (turned t)
  turn_ranked n t le number i d at act = past_opened n le ∙ ap (λ j. opened + j) (first_is core.turns n (is_turn n) (turn_tells n) i (d, at, ap (is_turn n) act ∙ eq-eqb t.number n number))

  turn_at : (worker k : ℕ) (x : Step) (at : slice_get (steps_of workers worker) k ≡ Some x) (t : Turn) (n : ℕ) → IsAmong t x.work.core.turns → t.number ≡ n → OfStep (turn n) worker k
  turn_at worker k x at t n among number =
      let work = (work_of s r workers run worker k x at).core in
      let later : length x.before.core.turns.known ≤ t.number = each_among (λ (u : Turn). length x.before.core.turns.known ≤ u.number) x.work.core.turns t (run.steps.each worker k x at).did.pool.later among in
      let known = begins_length (run.steps.first worker).core.turns.known x.before.core.turns.known (first_grows (run.steps.first worker) (steps_of workers worker) k x (run.steps.chained worker) at).pool in
      let past : opened ≤ n = omega (arith, later, known, (run.steps.new worker).pool, number) in
      of_step (turn n) worker k x at (turned t) (has_turned work.did t (subst (λ (l : List Turn). Has l t) (sym work.kinds.turns) (among_has x.work.core.turns t among)))
      (t, refl, number, ap (slice_get r.pool.items) (sym number) ∙ turn_stands s r workers run worker k x t at among) (turn_ranked n t past number)

  turn_step : (worker k n : ℕ) (e : PoolEntry) → slice_get r.pool.items n ≡ Some e → IsSomeAnd (reply_at r (serial_of worker k)) (IsMadeBy r e n) → OfStep (turn n) worker k
  turn_step worker k n e there by = ⊎_elim
      (λ x. let t = turn_by s r workers run worker k x.0 x.1 n e x.0.answered.reply refl there (subst (λ (o : Option Reply). IsSomeAnd o (IsMadeBy r e n)) (reply_is s r workers run worker k x.0 x.1) by) in
      turn_at worker k x.0 x.1 t.0 n t.1 t.2)
      (λ none. absurd (subst (λ (o : Option Answered). IsSomeAnd (option_map (λ (a : Answered). a.reply) o) (IsMadeBy r e n)) none by)) (step_cases s r workers run worker k)

  -- ---- counts
  record CountStep (worker n : ℕ) (c : Counting) : Type 0 where
    k : ℕ
    of : OfStep (count worker n) worker k
    by : c.by ≡ serial_of worker k

  count_step : (worker n : ℕ) (c : Counting) → slice_get (countings_of r worker) n ≡ Some c → CountStep worker n c
  count_step worker n c told =
      let t : CountAt s r workers run worker n c = count_at s r workers run worker n c told in
      record {
        k = t.k;
        of = record { step = t.step; at = t.at; spot = count_spot s r workers run worker n; from = t.from; to = t.to; deed = t.deed; there = t.there; says = (c, told, t.is); is = refl };
        by = t.by;
      }

  -- ---- the order
  pub by_step : (x : Told) (worker k : ℕ) → IsBy r (serial_of worker k) x → OfStep x worker k
  by_step (entry place n) worker k h = let t = entry_step place n h.0 h.1 in subst (λ (z : Serial). OfStep (entry place n) z.worker z.command) (t.by (serial_of worker k) h.2) t.of
  by_step (lookup id n) worker k h = lookup_step worker k id n h
  by_step (turn n) worker k h = turn_step worker k n h.0 h.1 h.2
  by_step (count w n) worker k h = let t = count_step w n h.0 h.1 in subst (λ (z : Serial). OfStep (count w n) z.worker z.command) (sym t.by ∙ h.2) t.of

  pub by_worker : (x y : Told) (worker k later : ℕ) → k < later → IsBy r (serial_of worker k) x → IsBy r (serial_of worker later) y → rank x < rank y
  by_worker x y worker k later lt first second =
      let a = by_step x worker k first in let b = by_step y worker later second in
      let did = begins_length a.step.after.core.did b.step.before.core.did (later_did (run.steps.first worker) (steps_of workers worker) k later a.step b.step (run.steps.chained worker) lt a.at b.at) in
      let to = a.to in let from = b.from in let is_a = a.is in let is_b = b.is in
      let up = spots_rise (1 + worker) run.order.line a.spot b.spot b.deed b.there (omega (arith, did, to, from)) in
      omega (arith, up, is_a, is_b)

  -- what is told is of the start, or stands in the line
  pub record InLine (x : Told) : Type 0 where
    pub index : ℕ
    pub deed : Deed Event
    pub there : get_elem? run.order.line index ≡ some deed
    pub says : Says x deed.act
    pub is : rank x ≡ opened + index

  pub of_line : (x : Told) (worker k : ℕ) → OfStep x worker k → InLine x
  of_line x worker k t = record {
    index = spot_of (1 + worker) run.order.line t.spot;
    deed = t.deed;
    there = spot_there (1 + worker) run.order.line t.spot t.deed t.there;
    says = t.says;
    is = t.is;
  }

  abbrev pub IsOfStart : Told → Type 0
  IsOfStart x = (n : ℕ) × (x ≡ turn n) × (n < opened)

  pub stands : (x : Told) → ReportTells r x → IsOfStart x ⊎ InLine x
  stands (entry place n) h = let t = entry_step place n h.0 h.1 in inr (of_line (entry place n) t.worker t.k t.of)
  stands (lookup id n) h = inr (of_line (lookup id n) h.0.worker h.0.command (lookup_step h.0.worker h.0.command id n h.1))
  stands (turn n) h = dite (dec_lt n opened)
      (λ lt. inl (n, refl, lt))
      (λ no. let t = turn_maker s r workers run n h.0 (omega (arith, no)) h.1 in inr (of_line (turn n) t.worker t.k (turn_at t.worker t.k t.step t.at t.made n t.among t.number)))
  stands (count w n) h = let t = count_step w n h.0 h.1 in inr (of_line (count w n) w t.k t.of)

  pub start_rank : (n : ℕ) → n < opened → rank (turn n) ≡ n
  start_rank n lt = ap (λ b. cond b n (opened + first_of (is_turn n) run.order.line)) (lt-ltb n opened lt)

  -- only what is of the start comes before an entry of the start
  before_start : (m : ToldMeasure) (x : Told) (n low high low' high' : ℕ) → n < opened → TellsOf r m x low high → TellsOf r m (turn n) low' high' → low < high' → (k : ℕ) × (x ≡ turn k) × (k ≤ n)
  before_start (entries p) x n low high low' high' lt t u less = absurd u
  before_start (lookups id) x n low high low' high' lt t u less =
      let decl = get_or (decls_on s) n 0 in
      let first : slice_get r.pool.items n ≡ Some (Registered decl n 0) = run.pool.opened n decl (slice_get-get_or (decls_on s) n 0 lt) in
      let at = subst (TurnTells id low' high') (same_Some u.0 (Registered decl n 0) (sym u.1 ∙ first)) u.2 in
      let none = at.2 in absurd (omega (arith, less, none))
  before_start turns (turn k) n low high low' high' lt t u less = let l = t.0 in let h = u.1 in (k, refl, omega (arith, less, l, h))
  before_start turns x n low high low' high' lt t u less = absurd t

  pub by_numbers : (x y : Told) → ReportTells r x → ReportTells r y → x ≢ y → (m : ToldMeasure) (low high low' high' : ℕ) → TellsOf r m x low high → TellsOf r m y low' high' → low < high' → rank x < rank y
  by_numbers x y told told' apart m low high low' high' t u less = ⊎_elim
      (λ b. let start = before_start m x b.0 low high low' high' b.2 t (subst (λ z. TellsOf r m z low' high') b.1 u) less in
      let lt = b.2 in let le = start.2 in
      let one = ap rank start.1 ∙ start_rank start.0 (omega (arith, lt, le)) in
      let two = ap rank b.1 ∙ start_rank b.0 b.2 in
      dite (ℕ_discrete start.0 b.0) (λ same. absurd (apart (start.1 ∙ (ap turn same ∙ sym b.1)))) (λ other. omega (arith, one, two, le, other)))
      (λ b. ⊎_elim
      (λ a. let one = ap rank a.1 ∙ start_rank a.0 a.2 in let lt = a.2 in let is = b.is in omega (arith, one, lt, is))
      (λ a. both a b)
      (stands x told))
      (stands y told') where
        both : InLine x → InLine y → rank x < rank y
        both a b =
            let first = tells m x a.deed.act low high a.says t in
            let second = tells m y b.deed.act low' high' b.says u in
            let le = ranking.by_numbers s.ids 0 run.order.line run.order.events a.index b.index a.deed b.deed a.there b.there (core_of m) low high low' high' first second less in
            let is_a = a.is in let is_b = b.is in
            dite (ℕ_discrete a.index b.index)
            (λ same. let deed : a.deed ≡ b.deed = some-injective a.deed b.deed (sym a.there ∙ (ap (get_elem? run.order.line) same ∙ b.there)) in
            let equal = alone (core_of m) b.deed.act low high low' high' (subst (λ (d : Deed Event). EventTells (core_of m) d.act low high) deed first) second in
            absurd (not_same m x y low high low' high' t u equal.0 equal.1 less apart))
            (λ other. omega (arith, le, other, is_a, is_b))

  -- ---- within a command
  -- a lookup of a command, by its number among the command's
  record LookedAt (worker k : ℕ) (x : Step) (at : slice_get (steps_of workers worker) k ≡ Some x) (n : ℕ) (l : ℕ × ℕ) : Type 0 where
    low : n < length (among attempts_in (work_of s r workers run worker k x at).core.did)
    deed : Deed Event
    there : get_elem? (mine s r workers run worker) (length x.before.core.did + kind_spot attempts_in (work_of s r workers run worker k x at).core.did n) ≡ some deed
    is : rank (lookup l.0 l.1) ≡ opened + spot_of (1 + worker) run.order.line (length x.before.core.did + kind_spot attempts_in (work_of s r workers run worker k x at).core.did n)

  looked_at : (worker k : ℕ) (x : Step) (at : slice_get (steps_of workers worker) k ≡ Some x) (n : ℕ) (l : ℕ × ℕ) → slice_get (looked_by r (serial_of worker k)) n ≡ Some l → LookedAt worker k x at n l
  unfolding at_step
  looked_at worker k x at n l h =
      let work = (work_of s r workers run worker k x at).core in
      let t = slice_map number_made x.work.core.attempts n l (ap (λ ls. slice_get ls n) (sym (looked_are worker k x at)) ∙ h) in
      let tried : get_elem? (among attempts_in work.did) n ≡ some t.0 = ap (λ ls. get_elem? ls n) work.kinds.attempts ∙ some_at x.work.core.attempts n t.0 t.1 in
      let event = kind_there attempts_in one_try work.did n t.0 tried in
      let here : get_elem? work.did (kind_spot attempts_in work.did n) ≡ some (looked t.0) = event.1 ∙ ap some (looked_in event.0 t.0 event.2) in
      let own : t.0.id ≡ l.0 = ap (λ (p : ℕ × ℕ). p.0) t.2 in let number : t.0.number ≡ l.1 = ap (λ (p : ℕ × ℕ). p.1) t.2 in
      let of = at_step (lookup l.0 l.1) worker k x at (looked t.0) (kind_spot attempts_in work.did n) here (t.0, refl, own, number) (lookup_ranked l.0 l.1 t.0 own number) in
      record { low = at_less (among attempts_in work.did) n t.0 tried; deed = of.deed; there = of.there; is = of.is }

  pub looked_rise : (worker k i j : ℕ) (p q : ℕ × ℕ) → i < j → slice_get (looked_by r (serial_of worker k)) i ≡ Some p → slice_get (looked_by r (serial_of worker k)) j ≡ Some q → rank (lookup p.0 p.1) < rank (lookup q.0 q.1)
  looked_rise worker k i j p q lt at_p at_q = ⊎_elim
      (λ x. let did = (work_of s r workers run worker k x.0 x.1).core.did in
      let a = looked_at worker k x.0 x.1 i p at_p in let b = looked_at worker k x.0 x.1 j q at_q in
      let less : kind_spot attempts_in did i < kind_spot attempts_in did j = kinds_rise attempts_in one_try did i j lt b.low in
      let up = spots_rise (1 + worker) run.order.line (length x.0.before.core.did + kind_spot attempts_in did i) (length x.0.before.core.did + kind_spot attempts_in did j) b.deed b.there (omega (arith, less)) in
      let is_a = a.is in let is_b = b.is in omega (arith, up, is_a, is_b))
      (λ none. absurd (none-some p (ap (λ l. slice_get l i) (sym (looked_none (serial_of worker k) none)) ∙ at_p))) (step_cases s r workers run worker k)

  pub counted_rise : (worker m n : ℕ) → m < n → n < length (countings_of r worker) → rank (count worker m) < rank (count worker n)
  counted_rise worker m n lt less =
      let told = there_at (countings_of r worker) n less in
      let t : CountAt s r workers run worker n told.0 = count_at s r workers run worker n told.0 told.1 in
      let up = spots_rise (1 + worker) run.order.line (count_spot s r workers run worker m) (count_spot s r workers run worker n) t.deed t.there (kinds_rise seen_in one_seen (acts_of (mine s r workers run worker)) m n lt t.less) in
      omega (arith, up)
