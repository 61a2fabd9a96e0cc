-- SPDX-License-Identifier: GPL-2.0-only
-- The steps of a run whose workers are done: each worker's are its commands with the report's answers, from the first state on.
use Rattle.shr_assemble.proofs.Common.{◌≡◌, ℕ, ◌+◌, ◌<◌, ◌≤◌, ⊎_elim, List, [], length, sym, refl, ap, subst, ◌∙◌, arith, slice_get, Option, Some, None, IfSome, flat_map, AllByRecursion, length-map, none-some, slice_get_past, Command, Sweep, WorkerScript, content_of, within_of_valid, Shared, WorkerState, CrewState, Ends, Report, commands_of, sweeps_in, sweeps_of, answers_of, walks_of, WorkerLog, AreEndsOf, new_worker, IsMadeOf, log_answers, log_walks, log_carries, log_isolations, isolated_in, isolated_before, DidIsolations, Step, AreStepsChained, steps_in, steps_of, IsStep, IsShownIn, AreRunSteps, IsOfPops, ArePoppedOnce, all_popped, IsSweepWithin, IsNewWorker, AreIsolating, AreSwept, carries_of, isolations_of, zero, suc, ◌∷◌, ◌++◌, length-append, get_or, get_or_append_left, dite, ℕ_discrete, lookups_of, get_or-append_seam, ◌≢◌, ◌⊎◌, inl, inr, Bool, true, false, not, cond, map, eqb, ne_eqb, find, filter, PlaceAmount, Place, amount_of, is_place, Has, is_place_same, is_place_itself, is_some_amount, amount_in, decls_on, Answered}
use Rattle.shr_model.proofs.Lists.{there_at}
use Rattle.shr_worker.specs.Chain as chain
use Rattle.shr_laws.specs.Parts as report
use Rattle.shr_assemble.proofs.Rows.{IsFit, DidEach, IsThereItem, along}
use Rattle.shr_assemble.proofs.Crews.{IsCrew, crew}
use Rattle.shr_assemble.proofs.EndsPlaces.{below_or}
use Rattle.shr_assemble.proofs.Opening.{known_opened, on_are}
use Rattle.shr_assemble.proofs.SweptRows.{items_there}
use Rattle.shr_core.specs.Ending.{lookups_below}

-- there is no part past the last worker
never_swept : (o : Option Sweep) → sweeps_in o None ≡ 0
never_swept None = refl
never_swept (Some z) = refl

-- a worker's commands by either name
pub same_in : (o : Option WorkerScript) → chain.listed_commands o ≡ report.commands_in o
same_in None = refl
same_in (Some w) = refl

module _ (x : Shared) (did : DidEach x) (logs : List WorkerLog) (e : Ends) (ends : AreEndsOf x logs e) (r : Report) (made : IsMadeOf x.script logs e r) where
  -- each job that a pass popped is there
  pub jobs_there : (i : ℕ) → i < length logs → (z : Sweep) → x.script.sweep ≡ Some z → AllByRecursion (IsThereItem x.script) (ends.popped i)
  jobs_there i lt z asked = items_there x.script ends.popped (length logs) i lt (ends.swept z asked)

  abbrev team : (workers : List (List Step)) × IsCrew x ends.opened ends.popped logs ends.lasts workers
  team = crew x ends.shared did ends.opened ends.popped logs ends.lasts ends.last_states ends.workers jobs_there ends.worked

  abbrev pub workers : List (List Step)
  workers = team.0

  pub is_crew : IsCrew x ends.opened ends.popped logs ends.lasts workers
  is_crew = team.1

  -- the steps of one worker
  pub record IsOf (worker : ℕ) (mine : List Step) : Type 0 where
    commands : length mine ≡ length (commands_of x.script worker) + sweeps_of x.script worker
    answers : length (answers_of r worker) ≡ length mine
    pub chained : AreStepsChained (new_worker ends.opened worker).seats mine
    walks : walks_of r worker ≡ flat_map (λ (y : Step). y.work.walks) mine
    carries : carries_of r worker ≡ flat_map (λ (y : Step). y.work.carries) mine
    each : (k : ℕ) (y : Step) → slice_get mine k ≡ Some y → IsStep x.script r worker k y
    isolations : isolations_of r worker ≡ flat_map isolated_in mine
    by_law : (k : ℕ) (y : Step) → slice_get mine k ≡ Some y → DidIsolations x.script y (isolated_before mine k)
    pops : (k : ℕ) (y : Step) → slice_get mine k ≡ Some y → y.command ≡ None → IsOfPops (ends.popped worker) y.work.walks y.answered.reply
    fit : (k : ℕ) (y : Step) → slice_get mine k ≡ Some y → IsFit y.before

  none_of : (worker : ℕ) → length logs ≤ worker → IsOf worker []
  none_of worker le =
      let script = ends.workers in
      let no_log = slice_get_past logs worker le in
      let no_script = slice_get_past x.script.workers.items worker (omega (arith, le, script)) in
      let no_answer : answers_of r worker ≡ [] = made.answers worker ∙ ap log_answers no_log in
      record {
        commands = let none = ap (λ o. length (report.commands_in o)) no_script in let no_sweep = ap (sweeps_in x.script.sweep) no_script ∙ never_swept x.script.sweep in omega (arith, none, no_sweep);
        answers = ap (λ l. length l) no_answer;
        chained = tt;
        walks = made.walks worker ∙ ap log_walks no_log;
        carries = made.carries worker ∙ ap log_carries no_log;
        each = λ k y h. absurd (none-some y h);
        isolations = made.isolations worker ∙ ap log_isolations no_log;
        by_law = λ k y h. absurd (none-some y h);
        pops = λ k y h none. absurd (none-some y h);
        fit = λ k y h. absurd (none-some y h);
      }

  some_of : (worker : ℕ) (log : WorkerLog) (last : CrewState) (mine : List Step) → slice_get logs worker ≡ Some log → slice_get ends.lasts worker ≡ Some last → slice_get workers worker ≡ Some mine → IsOf worker mine
  some_of worker log last mine at_log at_last at_mine =
      let row = is_crew.each worker log last mine at_log at_last at_mine in
      let worked = ends.worked worker log last at_log at_last in
      let answers : answers_of r worker ≡ log.answers.items = made.answers worker ∙ ap log_answers at_log in
      let commands : chain.worker_commands x.script worker ≡ commands_of x.script worker = same_in (slice_get x.script.workers.items worker) in
      record {
        commands = row.commands ∙ ap (λ (l : List Command). length l + sweeps_of x.script worker) commands;
        answers = ap (λ l. length l) answers ∙ row.answers;
        chained = row.chained;
        walks = made.walks worker ∙ (ap log_walks at_log ∙ (worked.walks ∙ (ap (λ (t : WorkerState). t.walks) (sym row.ends) ∙ along (λ (t : WorkerState). t.walks) (λ (y : Step). y.work.walks) (λ y d. d.walks) (new_worker ends.opened worker).seats mine row.chained)));
        carries = made.carries worker ∙ (ap log_carries at_log ∙ (worked.carries ∙ (ap (λ (t : WorkerState). t.carries) (sym row.ends) ∙ along (λ (t : WorkerState). t.carries) (λ (y : Step). y.work.carries) (λ y d. d.carries) (new_worker ends.opened worker).seats mine row.chained)));
        each = λ k y h. let s = row.each k y h in assumption (ap (λ (l : List Command). slice_get l k) (sym commands) ∙ s.1, ap (λ (l : List Answered). slice_get l k) answers ∙ s.2, s);
        isolations = made.isolations worker ∙ (ap log_isolations at_log ∙ (worked.isolations ∙ row.recorded));
        by_law = λ k y h. subst (λ (n : ℕ). DidIsolations x.script y n) (let z : 0 + isolated_before mine k ≡ isolated_before mine k = omega arith in z) (row.by_law k y h);
        pops = row.pops;
        fit = row.fit;
      }

  pub is_of : (worker : ℕ) → IsOf worker (steps_of workers worker)
  is_of worker = ⊎_elim
      (λ lt. let lasts_are = is_crew.lasts_are in let workers_are = is_crew.workers_are in
      let log = there_at logs worker lt in let last = there_at ends.lasts worker (omega (arith, lt, lasts_are)) in let mine = there_at workers worker (omega (arith, lt, workers_are)) in
      subst (IsOf worker) (ap steps_in (sym mine.1)) (some_of worker log.0 last.0 mine.0 log.1 last.1 mine.1))
      (λ le. let workers_are = is_crew.workers_are in subst (IsOf worker) (ap steps_in (sym (slice_get_past workers worker (omega (arith, le, workers_are))))) (none_of worker le))
      (below_or worker (length logs))

  -- what each worker knows and has done at the start
  is_new : (worker : ℕ) → IsNewWorker x.script (new_worker ends.opened worker).seats
  is_new worker =
      let known = known_opened x.script.caches.items (length x.script.caches.items) ends.opened ends.entered in let are = on_are x.script.caches.items 0 in
      let pool : length (decls_on x.script) ≤ length (new_worker ends.opened worker).seats.core.turns.known = omega (arith, known, are) in assumption pool

  pub steps : ((worker k : ℕ) (y : Step) → slice_get (steps_of workers worker) k ≡ Some y → IsShownIn x.script r workers y.after) → AreRunSteps x.script r workers
  steps shown = record {
    each = λ worker k y h. (is_of worker).each k y h;
    commands = λ worker. (is_of worker).commands;
    answers = λ worker. (is_of worker).answers;
    first = λ worker. (new_worker ends.opened worker).seats;
    new = is_new;
    chained = λ worker. (is_of worker).chained;
    walks = λ worker. (is_of worker).walks;
    carries = λ worker. (is_of worker).carries;
    shown = shown;
  }

  -- between two commands a worker is fit
  pub fit : (worker k : ℕ) (y : Step) → slice_get (steps_of workers worker) k ≡ Some y → IsFit y.before
  fit worker k y h = (is_of worker).fit k y h

  pub isolating : AreIsolating x.script r workers
  isolating = record {
    told = λ worker. (is_of worker).isolations;
    did = λ worker k y h. (is_of worker).by_law k y h;
  }

  -- the parts of the sweep
  some_worker : (z : Sweep) → x.script.sweep ≡ Some z → 0 < length x.script.workers.items
  some_worker z asked =
      let within = (within_of_valid (content_of x.script) ends.shared.script).sweep in
      let some = (subst (λ (o : Option Sweep). IfSome o (IsSweepWithin (content_of x.script))) asked within).some_worker in
      let same = length-map x.script.workers.items (λ (w : WorkerScript). w.commands.items) in omega (arith, some, same)

  pub swept : AreSwept x.script workers
  swept = record {
    popped = ends.popped;
    walked = λ worker k y at none. (is_of worker).pops k y at none;
    some = some_worker;
    once = λ z asked. subst (λ n. ArePoppedOnce x.script (all_popped ends.popped n)) ends.workers (ends.swept z asked);
  }

pub lookups_long : (n : ℕ) (look : ℕ → ℕ) → length (lookups_below n look) ≡ n
unfolding lookups_below
lookups_long zero look = refl
lookups_long (suc n) look = let a = length-append (lookups_below n look) (lookups_of (look n) ∷ []) in let h = lookups_long n look in omega (arith, a, h)

pub lookups_at_below : (n : ℕ) (look : ℕ → ℕ) (id : ℕ) → id < n → get_or (lookups_below n look) id 0 ≡ lookups_of (look id)
unfolding lookups_below
lookups_at_below zero look id lt = absurd (omega (arith, lt))
lookups_at_below (suc n) look id lt = let long = lookups_long n look in dite (ℕ_discrete id n)
    (λ e. ap (λ (i : ℕ). get_or (lookups_below n look ++ lookups_of (look n) ∷ []) i 0) (e ∙ sym long) ∙ (get_or-append_seam (lookups_below n look) (lookups_of (look n)) [] 0 ∙ ap (λ (i : ℕ). lookups_of (look i)) (sym e)))
    (λ ne. get_or_append_left (lookups_below n look) (lookups_of (look n) ∷ []) 0 id (omega (arith, lt, ne, long)) ∙ lookups_at_below n look id (omega (arith, lt, ne)))

-- the amounts by place that aren't 0, of places by their numbers
abbrev shown_of : (ℕ → Place) → (Place → ℕ) → List ℕ → List PlaceAmount
shown_of at word is = filter is_some_amount (map (λ i. amount_of (at i) (word (at i))) is)

abbrev found_in : Place → List PlaceAmount → ℕ
found_in p xs = amount_in (find (λ (x : PlaceAmount). is_place x.place p) xs)

-- what one place more in front finds
in_front : (at : ℕ → Place) (word : Place → ℕ) (i : ℕ) (p : Place) (xs : List PlaceAmount) → (b : Bool) → (c : Bool)
    → found_in p (cond b (amount_of (at i) (word (at i)) ∷ xs) xs) ≡ cond b (cond (is_place (at i) p) (word (at i)) (found_in p xs)) (found_in p xs)
in_front at word i p xs false c = refl
in_front at word i p xs true c = elim (is_place (at i) p) as (λ (d : Bool). amount_in (cond d (Some (amount_of (at i) (word (at i)))) (find (λ (x : PlaceAmount). is_place x.place p) xs)) ≡ cond d (word (at i)) (found_in p xs)) [ true ↦ refl | false ↦ refl ]

some_if : (n : ℕ) → not (eqb n 0) ≡ true → 0 < n
some_if zero h = absurd (let f : false ≡ true = h in cc)
some_if (suc n) h = omega arith

none_if : (n : ℕ) → not (eqb n 0) ≡ false → n ≡ 0
none_if n h = dite (ℕ_discrete n 0) (λ e. e) (λ ne. absurd (let f : true ≡ false = sym (ap not (ne_eqb n 0 ne)) ∙ h in cc))

-- where the word of a place is 0, or the place isn't there, nothing is found
pub found_zero : (at : ℕ → Place) (word : Place → ℕ) (p : Place) (is : List ℕ) → ((i : ℕ) → Has is i → at i ≡ p → word p ≡ 0) → found_in p (shown_of at word is) ≡ 0
found_zero at word p [] h = refl
found_zero at word p (i ∷ is) h = in_front at word i p (shown_of at word is) (is_some_amount (amount_of (at i) (word (at i)))) true
    ∙ choose (is_some_amount (amount_of (at i) (word (at i)))) (is_place (at i) p) refl (λ e. let q = is_place_same (at i) p e in ap word q ∙ h i (inl refl) q) (found_zero at word p is (λ j has. h j (inr has))) where
      choose : (b c : Bool) → is_place (at i) p ≡ c → (is_place (at i) p ≡ true → word (at i) ≡ 0) → found_in p (shown_of at word is) ≡ 0 → cond b (cond c (word (at i)) (found_in p (shown_of at word is))) (found_in p (shown_of at word is)) ≡ 0
      choose true true e zero_is rest = zero_is e
      choose true false e zero_is rest = rest
      choose false c e zero_is rest = rest

-- the word of a place that is there is found
pub found_word : (at : ℕ → Place) (word : Place → ℕ) (p : Place) (is : List ℕ) (k : ℕ) → Has is k → at k ≡ p → found_in p (shown_of at word is) ≡ word p
found_word at word p is k has here = dite (ℕ_discrete (word p) 0) (λ e. found_zero at word p is (λ i h q. e) ∙ sym e) (λ ne. found ne is has) where
  one : word p ≢ 0 → (i : ℕ) (is : List ℕ) (b c : Bool) → is_some_amount (amount_of (at i) (word (at i))) ≡ b → is_place (at i) p ≡ c → (at i ≡ p ⊎ (found_in p (shown_of at word is) ≡ word p))
      → cond b (cond c (word (at i)) (found_in p (shown_of at word is))) (found_in p (shown_of at word is)) ≡ word p
  one ne i is true true some same h = ap word (is_place_same (at i) p same)
  one ne i is true false some same h = ⊎_elim (λ q. absurd (let t : true ≡ false = sym (is_place_itself p) ∙ (ap (λ z. is_place z p) (sym q) ∙ same) in cc)) (λ f. f) h
  one ne i is false c some same h = ⊎_elim (λ q. absurd (ne (ap word (sym q) ∙ none_if (word (at i)) some))) (λ f. f) h

  found : word p ≢ 0 → (is : List ℕ) → Has is k → found_in p (shown_of at word is) ≡ word p
  found ne [] has = absurd has
  found ne (i ∷ is) has = in_front at word i p (shown_of at word is) (is_some_amount (amount_of (at i) (word (at i)))) true
      ∙ one ne i is (is_some_amount (amount_of (at i) (word (at i)))) (is_place (at i) p) refl refl (⊎_elim (λ q. inl (ap at q ∙ here)) (λ later. inr (found ne is later)) has)

-- no amount that is printed is 0
pub shown_some : (at : ℕ → Place) (word : Place → ℕ) (is : List ℕ) → AllByRecursion (λ (x : PlaceAmount). 0 < x.amount) (shown_of at word is)
shown_some at word [] = tt
shown_some at word (i ∷ is) = choose (is_some_amount (amount_of (at i) (word (at i)))) refl (shown_some at word is) where
  choose : (b : Bool) → is_some_amount (amount_of (at i) (word (at i))) ≡ b → AllByRecursion (λ (x : PlaceAmount). 0 < x.amount) (shown_of at word is)
      → AllByRecursion (λ (x : PlaceAmount). 0 < x.amount) (cond b (amount_of (at i) (word (at i)) ∷ shown_of at word is) (shown_of at word is))
  choose true e rest = (some_if (word (at i)) e, rest)
  choose false e rest = rest
