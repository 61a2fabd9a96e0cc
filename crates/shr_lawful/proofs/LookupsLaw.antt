-- SPDX-License-Identifier: GPL-2.0-only
-- The law of lookups, of a run.
use Rattle.shr_lawful.proofs.Common.{◌≡◌, ℕ, ◌+◌, ◌<◌, ◌≤◌, ⊎_elim, Bool, true, false, cond, List, [], ◌∷◌, ◌++◌, length, length-append, take, sym, refl, ap, subst, ◌∙◌, arith, eqb, eq-eqb, ne_eqb, slice_get, Option, Some, None, flat_map, map, filter, filter_map, count_by, nat_lt, is_some, option_and_then, ◌==◌, if◌then◌else◌, cases_lt, ltb-true, lt-ltb, AllByRecursion, cons_option, flat_map-append, take-append-le, Found, Answered, Serial, Command, Script, Attempt, WalkRecord, WorkerPart, PoolEntry, number_of, is_held, decl_named, registrations, decl_at, is_live, decl_of, from_of, total, total-append, total_zero, Tried, hit_attempt, Report, lookups_at, walk_at, Step, IsAmong, gathered, steps_in, steps_of, lookup_numbered, numbers_tried, number_found, number_made, IsFoundBy, all_attempts, IsRun, count_total, get_or_past, attempt_at, answers_in, no_test}
use Rattle.shr_laws.specs.Lookups.{found_number, found_numbers, tried_numbers, IsFoundRight, AreLookupsLawful}
use Rattle.shr_lawful.proofs.Gathering.{each_step, has_step, gathered_has, among_right, weighs, work_of, Stepped, stepped}
use Rattle.shr_lawful.proofs.Listed.{same_flat, answers_are, all_walks_are, walk_of}

-- ---- counting pairs of an id and a number
abbrev pair_hit : ℕ → ℕ → ℕ × ℕ → ℕ
pair_hit id number p = cond (p.0 == id) (cond (p.1 == number) 1 0) 0

abbrev weight : ℕ → ℕ → ℕ
weight number m = cond (m == number) 1 0

abbrev weight_of : ℕ → Option ℕ → ℕ
weight_of number None = 0
weight_of number (Some m) = weight number m

-- the numbers of the attempts of a walk at an id
abbrev tried_at : ℕ → WalkRecord → List ℕ
tried_at id w = filter_map (λ (a : Attempt). number_of a.outcome) (filter (λ (a : Attempt). a.id == id) w.attempts.items)

total_option : (number : ℕ) (o : Option ℕ) (xs : List ℕ) → total (weight number) (cons_option o xs) ≡ weight_of number o + total (weight number) xs
total_option number None xs = omega arith
total_option number (Some m) xs = refl

total_pairs : (id number : ℕ) (xs : List Tried) → total (hit_attempt id number) xs ≡ total (pair_hit id number) (map number_made xs)
total_pairs id number [] = refl
total_pairs id number (x ∷ xs) = omega (arith, total_pairs id number xs)

module _ (id number : ℕ) where
  chosen : (b : Bool) (m : ℕ) → weight_of number (if b then Some m else None) ≡ cond b (weight number m) 0 + 0
  chosen true m = omega arith
  chosen false m = refl

  one_found : (o : Option Found) → weight_of number (option_and_then (λ (f : Found). if f.id == id then Some f.number else None) o) ≡ total (pair_hit id number) (number_found o)
  one_found None = refl
  one_found (Some f) = chosen (f.id == id) f.number

  one_tried : (b : Bool) (i : ℕ) (o : Option ℕ) → (i == id) ≡ b → cond b (weight_of number o) 0 ≡ total (pair_hit id number) (lookup_numbered i o)
  one_tried true i None e = refl
  one_tried false i None e = refl
  one_tried true i (Some m) e = let z : cond (i == id) (weight number m) 0 ≡ weight number m = ap (λ c. cond c (weight number m) 0) e in omega (arith, z)
  one_tried false i (Some m) e = let z : cond (i == id) (weight number m) 0 ≡ 0 = ap (λ c. cond c (weight number m) 0) e in omega (arith, z)

  kept_or_not : (b : Bool) (a : Attempt) (xs : List Attempt) → total (weight number) (filter_map (λ (y : Attempt). number_of y.outcome) (cond b (a ∷ xs) xs))
      ≡ cond b (weight_of number (number_of a.outcome)) 0 + total (weight number) (filter_map (λ (y : Attempt). number_of y.outcome) xs)
  kept_or_not true a xs = total_option number (number_of a.outcome) (filter_map (λ (y : Attempt). number_of y.outcome) xs)
  kept_or_not false a xs = omega arith

  walk_tried : (xs : List Attempt) → total (weight number) (filter_map (λ (a : Attempt). number_of a.outcome) (filter (λ (a : Attempt). a.id == id) xs)) ≡ total (pair_hit id number) (flat_map (λ (a : Attempt). lookup_numbered a.id (number_of a.outcome)) xs)
  walk_tried [] = refl
  walk_tried (a ∷ xs) = omega (
    arith,
    walk_tried xs,
    kept_or_not (a.id == id) a (filter (λ (y : Attempt). y.id == id) xs),
    one_tried (a.id == id) a.id (number_of a.outcome) refl,
    total-append (pair_hit id number) (lookup_numbered a.id (number_of a.outcome)) (flat_map (λ (y : Attempt). lookup_numbered y.id (number_of y.outcome)) xs),
  )

  walks_tried : (ws : List WalkRecord) → total (weight number) (flat_map (tried_at id) ws) ≡ total (pair_hit id number) (flat_map numbers_tried ws)
  walks_tried [] = refl
  walks_tried (w ∷ ws) = omega (arith, walks_tried ws, walk_tried w.attempts.items, total-append (weight number) (tried_at id w) (flat_map (tried_at id) ws), total-append (pair_hit id number) (numbers_tried w) (flat_map numbers_tried ws))

  -- the lookups of a step are counted by its found cache and its walks
  abbrev Counted : Step → Type 0
  Counted x = map number_made x.work.core.attempts ≡ flat_map numbers_tried x.work.walks ++ number_found x.answered.found

  mine_counted : (mine : List Step) → AllByRecursion Counted mine
      → total (hit_attempt id number) (flat_map (λ (x : Step). x.work.core.attempts) mine)
      ≡ total (weight number) (filter_map (found_number id) (map (λ (x : Step). x.answered) mine)) + total (weight number) (flat_map (tried_at id) (flat_map (λ (x : Step). x.work.walks) mine))
  mine_counted [] h = refl
  mine_counted (x ∷ mine) h = omega (
    arith,
    mine_counted mine h.1,
    total-append (hit_attempt id number) x.work.core.attempts (flat_map (λ (y : Step). y.work.core.attempts) mine),
    total_pairs id number x.work.core.attempts,
    ap (total (pair_hit id number)) h.0,
    total-append (pair_hit id number) (flat_map numbers_tried x.work.walks) (number_found x.answered.found),
    walks_tried x.work.walks,
    one_found x.answered.found,
    total_option number (found_number id x.answered) (filter_map (found_number id) (map (λ (y : Step). y.answered) mine)),
    ap (total (weight number)) (flat_map-append (tried_at id) x.work.walks (flat_map (λ (y : Step). y.work.walks) mine)),
    total-append (weight number) (flat_map (tried_at id) x.work.walks) (flat_map (tried_at id) (flat_map (λ (y : Step). y.work.walks) mine)),
  )

  all_counted : (workers : List (List Step)) → AllByRecursion (λ (mine : List Step). AllByRecursion Counted mine) workers
      → total (hit_attempt id number) (all_attempts workers)
      ≡ total (weight number) (flat_map (λ (mine : List Step). filter_map (found_number id) (map (λ (x : Step). x.answered) mine)) workers) + total (weight number) (flat_map (tried_at id) (gathered (λ x. x.work.walks) workers))
  all_counted [] h = refl
  all_counted (mine ∷ ws) h = omega (
    arith,
    all_counted ws h.1,
    mine_counted mine h.0,
    total-append (hit_attempt id number) (flat_map (λ (x : Step). x.work.core.attempts) mine) (all_attempts ws),
    total-append (weight number) (filter_map (found_number id) (map (λ (x : Step). x.answered) mine)) (flat_map (λ (m : List Step). filter_map (found_number id) (map (λ (x : Step). x.answered) m)) ws),
    ap (total (weight number)) (flat_map-append (tried_at id) (flat_map (λ (x : Step). x.work.walks) mine) (gathered (λ x. x.work.walks) ws)),
    total-append (weight number) (flat_map (tried_at id) (flat_map (λ (x : Step). x.work.walks) mine)) (flat_map (tried_at id) (gathered (λ x. x.work.walks) ws)),
  )

module _ (s : Script) (r : Report) (workers : List (List Step)) (run : IsRun s r workers) where
  -- a lookup that a step made
  attempt_shown : (worker k : ℕ) (x : Step) (t : Tried) → slice_get (steps_of workers worker) k ≡ Some x → IsAmong t x.work.core.attempts → (t.id < s.ids) × (t.held ≡ decl_at t.number (registrations t.id r.pool.items))
  attempt_shown worker k x t at among = let h = among_right x.before.core.claims.attempts x.work.core.attempts t among in
      (run.steps.shown worker k x at).tried h.0 t (subst (λ l. IsAmong t l) (sym (work_of s r workers run worker k x at).core.attempts) h).1

  attempt_below : (worker k : ℕ) (x : Step) (t : Tried) → slice_get (steps_of workers worker) k ≡ Some x → IsAmong t x.work.core.attempts → t.number < lookups_at r t.id
  attempt_below worker k x t at among = by_test (nat_lt t.number (lookups_at r t.id)) refl where
    hit_itself : hit_attempt t.id t.number t ≡ 1
    hit_itself = ap (λ b. cond b (cond (eqb t.number t.number) 1 0) 0) (eq-eqb t.id t.id refl) ∙ ap (λ b. cond b 1 0) (eq-eqb t.number t.number refl)

    drawn : 1 ≤ cond {A = ℕ} (nat_lt t.number (lookups_at r t.id)) 1 0
    drawn = omega (arith, hit_itself, run.pool.drawn t.id t.number (attempt_shown worker k x t at among).0, weighs (hit_attempt t.id t.number) (all_attempts workers) t (gathered_has (λ (y : Step). y.work.core.attempts) workers worker k x t at among))

    by_test : (b : Bool) → nat_lt t.number (lookups_at r t.id) ≡ b → t.number < lookups_at r t.id
    by_test true e = ltb-true t.number (lookups_at r t.id) e
    by_test false e = absurd (omega (arith, drawn, ap (λ b. cond {A = ℕ} b 1 0) e))

  -- what it met is what the pool's journal says
  pub attempt_met : (worker k : ℕ) (x : Step) (t : Tried) → slice_get (steps_of workers worker) k ≡ Some x → IsAmong t x.work.core.attempts → t.held ≡ attempt_at t.id t.number (lookups_at r t.id) r.pool.items
  attempt_met worker k x t at among = (attempt_shown worker k x t at among).1
      ∙ sym (ap (λ b. if b then decl_at t.number (registrations t.id r.pool.items) else None) (lt-ltb t.number (lookups_at r t.id) (attempt_below worker k x t at among)))

  -- the numbers of an id
  counted : (id number : ℕ) → count_by (λ n. n == number) (found_numbers r id ++ tried_numbers r id) ≡ total (hit_attempt id number) (all_attempts workers)
  counted id number =
      let found : found_numbers r id ≡ flat_map (λ (mine : List Step). filter_map (found_number id) (map (λ (x : Step). x.answered) mine)) workers =
      same_flat (λ (part : WorkerPart). filter_map (found_number id) part.answers.items) (λ (mine : List Step). filter_map (found_number id) (map (λ (x : Step). x.answered) mine)) r.workers.items workers
      (λ o. filter_map (found_number id) (answers_in o)) (λ (o : Option (List Step)). filter_map (found_number id) (map (λ (x : Step). x.answered) (steps_in o))) refl refl (λ part. refl) (λ mine. refl)
      (λ worker. ap (filter_map (found_number id)) (answers_are s r workers run worker)) in
      omega (
        arith,
        count_total (λ n. n == number) (found_numbers r id ++ tried_numbers r id),
        total-append (weight number) (found_numbers r id) (tried_numbers r id),
        ap (total (weight number)) found,
        ap (λ l. total (weight number) (flat_map (tried_at id) l)) (all_walks_are s r workers run),
        all_counted id number workers (each_step (Counted id number) workers (λ worker k x at. (run.steps.each worker k x at).did.lookups.numbers)),
      )

  numbers : (id number : ℕ) → count_by (λ n. n == number) (found_numbers r id ++ tried_numbers r id) ≡ (if nat_lt number (lookups_at r id) then 1 else 0)
  numbers id number = ⊎_elim (λ near. counted id number ∙ run.pool.drawn id number near) (λ far. counted id number ∙ (none far ∙ sym (ap (λ b. if b then 1 else 0) (not_below far)))) (cases_lt id s.ids) where
    past : s.ids ≤ id → lookups_at r id ≡ 0
    past far = get_or_past r.lookups.items id 0 (omega (arith, far, run.pool.printed))

    not_below : s.ids ≤ id → nat_lt number (lookups_at r id) ≡ false
    not_below far = no_test (nat_lt number (lookups_at r id)) (λ e. omega (arith, ltb-true number (lookups_at r id) e, past far))

    none : s.ids ≤ id → total (hit_attempt id number) (all_attempts workers) ≡ 0
    none far = total_zero (hit_attempt id number) (all_attempts workers) (λ j t e. let of = has_step (λ (x : Step). x.work.core.attempts) workers t (j, e) in
        let near = (attempt_shown of.worker of.k of.step t of.at of.has).0 in
        ap (λ b. cond {A = ℕ} b (cond {A = ℕ} (eqb t.number number) 1 0) 0) (ne_eqb t.id id (λ same. omega (arith, near, far, same))))

  -- an attempt was held exactly where its number lies in a registration
  pub met : (worker n : ℕ) (w : WalkRecord) → walk_at r worker n ≡ Some w → (k : ℕ) (a : Attempt) → slice_get w.attempts.items k ≡ Some a → (number : ℕ) → number_of a.outcome ≡ Some number
      → is_held a.outcome ≡ is_some (attempt_at a.id number (lookups_at r a.id) r.pool.items)
  met worker n w at k a at_a number e =
      let of = walk_of s r workers run worker n w at in
      let t = (of.did.attempts k a at_a).tried number e in
      t.2 ∙ ap is_some (attempt_met worker of.k of.step (record { id = a.id; number = number; held = t.0 }) of.at t.1)

  found_right : (by : Serial) (c : Command) (a : Answered) → Stepped s r workers run by c a → (decl : ℕ) (f : Found) → decl_named c ≡ Some decl → a.found ≡ Some f → IsFoundRight r decl f
  found_right by c a t decl f named found =
      let own : t.step.answered.found ≡ Some f = ap (λ (y : Answered). y.found) t.answered ∙ found in
      let h : IsFoundBy t.step decl f = t.did.lookups.found decl f (ap (option_and_then decl_named) t.command ∙ named) own in
      let pool = (run.steps.shown by.worker by.command t.step t.at).pool in
      let same : take f.entry t.step.after.core.turns.known ≡ take f.entry r.pool.items = sym (ap (take f.entry) pool.1 ∙ take-append-le f.entry t.step.after.core.turns.known pool.0 h.known) in
      record {
        there = omega (arith, h.known, ap (λ (l : List PoolEntry). length l) pool.1, length-append t.step.after.core.turns.known pool.0);
        live = ap (is_live f.id) (sym same) ∙ h.live;
        decl_is = ap (decl_of f.id) (sym same) ∙ h.decl_is;
        from = subst (λ l. from_of f.id l ≤ f.number) same h.from;
        to = run.pool.ended by.worker by.command decl t.step f t.at (ap (option_and_then decl_named) t.command ∙ named) own;
      }

  pub lookups_lawful : AreLookupsLawful s r
  lookups_lawful = record {
    pool = run.pool.journal;
    opened = run.pool.opened;
    printed = run.pool.printed;
    last = λ id live. run.pool.last id;
    numbers = numbers;
    met = met;
    found = λ by c a command answer. found_right by c a (stepped s r workers run by c a command answer);
    idle = run.pool.idle;
  }
