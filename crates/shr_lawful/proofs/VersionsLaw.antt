-- SPDX-License-Identifier: GPL-2.0-only
-- Along a worker's walks the versions at a place never fall.
use Rattle.shr_lawful.proofs.Common.{◌≡◌, ℕ, zero, suc, ◌≤◌, true, false, List, [], ◌∷◌, length, map, sym, refl, ap, subst, ◌∙◌, slice_get, Option, Some, option_and_then, IsSomeAnd, same_Some, none-some, CacheDecl, Script, Attempt, Outcome, PassRecord, WalkRecord, Count, number_of, is_held, pass_of, counts_of, place_number, place_in, Counted, Report, journals_of, items_before, IsThere, cache_of, IsCountRight, IsOutcomeOf, AreScansOf, IsStopped, IsLawfulWalk, Step, IsAmong, scans_made, HasMetCache, counted_in, IsRun, at_some, by_slices, some_at, cache_met, ◌+◌, ⊎_elim, Bool, cond, ◌++◌, arith, eqb, eq-eqb, ne_eqb, flat_map, filter, AllByRecursion, some, some-ne-none, get_elem?, eqb-true, flat_map-append, map-append, Place, is_place, versions_at, is_place_same, is_place_itself, Each, Each-append, at_begins, place_at, Rising, AreFresh, WorkerState, walks_of, AreNotFalling, steps_of, AreStepsChained, flat_zero, no_test, adjacent}
use Rattle.shr_base.specs.declared.walks.Outcome.TheVariants.{Worn, Gone}
use Rattle.shr_lawful.proofs.Gathering.{among_right, among_flat, work_of, back_there}
use Rattle.shr_lawful.proofs.Listed.{WalkOf, walk_of}
use Rattle.shr_lawful.proofs.LookupsLaw.{attempt_met}
use Rattle.shr_lawful.proofs.ScansLaw.{scans_are}
use Rattle.shr_lawful.proofs.DeferredLaw.{there_or_not, filter_none}

-- an attempt that held a cache, and one that made a pass, has a number
pub held_number : (o : Outcome) → is_held o ≡ true → (n : ℕ) × (number_of o ≡ Some n)
held_number (Worn seen) h = absurd (let f : false ≡ true = h in cc)
held_number (Gone n then) h = absurd (let f : false ≡ true = h in cc)
held_number o h = (_, refl)

pub pass_held : (o : Outcome) (p : PassRecord) → pass_of o ≡ Some p → is_held o ≡ true
pass_held (Worn seen) p h = absurd (none-some p h)
pass_held (Gone n then) p h = absurd (none-some p h)
pass_held o p h = refl

pub among_map : {A B : Type 0} (f : A → B) (xs : List A) (x : A) → IsAmong x xs → IsAmong (f x) (map f xs)
among_map f [] x (j, e) = absurd (none-some x (at_some [] j x e))
among_map f (y ∷ xs) x (zero, e) = (0, some_at (f y ∷ map f xs) 0 (f x) (ap (λ z. Some (f z)) (same_Some y x (at_some (y ∷ xs) 0 x e))))
among_map f (y ∷ xs) x (suc j, e) = let t = among_map f xs x (j, e) in (suc t.0, t.1)

module _ (s : Script) (r : Report) (workers : List (List Step)) (run : IsRun s r workers) (worker n : ℕ) (w : WalkRecord) (of : WalkOf s r workers run worker n w) where
  -- the place of an attempt is one of the script
  pub attempt_there : (k : ℕ) (a : Attempt) → slice_get w.attempts.items k ≡ Some a → IsThere s (place_in w a.id)
  attempt_there k a at = record { id = (of.did.attempts k a at).id; node = of.did.node; group = of.did.group }

  -- a count of an attempt was made by the step
  pub count_made : (k : ℕ) (a : Attempt) (c : Count) → slice_get w.attempts.items k ≡ Some a → IsAmong c (counts_of a.outcome) → IsAmong (record { place = place_number (place_in w a.id); len = c.len; version = c.version }) of.step.work.core.seen
  count_made k a c at among = let f : Count → Counted = λ (z : Count). record { place = place_number (place_in w a.id); len = z.len; version = z.version } in
      subst (λ l. IsAmong (f c) l) of.is.did.walks.seen (among_flat counted_in of.step.work.walks w (f c) (of.i, some_at of.step.work.walks of.i w of.own)
      (among_flat (λ (b : Attempt). map (λ (z : Count). record { place = place_number (place_in w b.id); len = z.len; version = z.version }) (counts_of b.outcome)) w.attempts.items a (f c) (k, some_at w.attempts.items k a at) (among_map f (counts_of a.outcome) c among)))

  count_right : (k : ℕ) (a : Attempt) (c : Count) → slice_get w.attempts.items k ≡ Some a → IsAmong c (counts_of a.outcome) → IsCountRight s r (place_in w a.id) c
  count_right k a c at among =
      let f : Counted = record { place = place_number (place_in w a.id); len = c.len; version = c.version } in
      let h = among_right of.step.before.core.traces.seen of.step.work.core.seen f (count_made k a c at among) in
      let shown = (run.steps.shown worker of.k of.step of.at).seen h.0 f (subst (λ l. IsAmong f l) (sym (work_of s r workers run worker of.k of.step of.at).core.seen) h).1 in
      let back = back_there s r workers run (place_in w a.id) (attempt_there k a at) in
      record { there = subst (λ p. c.version ≤ length (journals_of r p)) back shown.0; len = subst (λ p. c.len ≡ length (items_before s r p c.version)) back shown.1 }

  -- the cache of a held attempt
  pub cache_is : (k : ℕ) (a : Attempt) (number : ℕ) → slice_get w.attempts.items k ≡ Some a → number_of a.outcome ≡ Some number → (h : HasMetCache s of.step n w a number) → cache_of s r a ≡ Some h.cache
  cache_is k a number at e h = ap (option_and_then (cache_met s r a.id)) e
      ∙ (ap (option_and_then (slice_get s.caches.items)) (sym (attempt_met s r workers run worker of.k of.step (record { id = a.id; number = number; held = Some h.decl }) of.at h.tried)) ∙ h.declared)

  pub was_held : (k : ℕ) (a : Attempt) (number : ℕ) → slice_get w.attempts.items k ≡ Some a → number_of a.outcome ≡ Some number → is_held a.outcome ≡ true → HasMetCache s of.step n w a number
  was_held k a number at e held = (of.did.attempts k a at).held number e held

  pub lawful_walk : IsLawfulWalk s r worker n w
  lawful_walk = let rec = of.did.record_is in record {
    offline = rec.offline;
    mapped = rec.mapped;
    root = rec.root;
    memory = rec.memory;
    counts = λ k a at. by_slices (IsCountRight s r (place_in w a.id)) (counts_of a.outcome) (λ j c e. count_right k a c at (j, some_at (counts_of a.outcome) j c e));
    kinds = λ k a at held. let t = held_number a.outcome held in let h = was_held k a t.0 at t.1 held in
        subst (λ (o : Option CacheDecl). IsSomeAnd o (λ d. IsOutcomeOf w.priority d a.outcome)) (sym (cache_is k a t.0 at t.1 h)) h.kind;
    placed = rec.placed;
    scans = λ k a at d p met passed. let held = pass_held a.outcome p passed in let t = held_number a.outcome held in let h = was_held k a t.0 at t.1 held in
        let same : h.cache ≡ d = same_Some h.cache d (sym (cache_is k a t.0 at t.1 h) ∙ met) in
        scans_are s r workers run worker n w of (place_in w a.id) (attempt_there k a at) w.priority d p (subst (λ (c : CacheDecl). AreScansOf w.priority c p (scans_made (place_number (place_in w a.id)) of.step.by.worker n of.step.work.core.made)) same (h.pass p passed).scans);
    stops = λ k a at d p met passed. let held = pass_held a.outcome p passed in let t = held_number a.outcome held in let h = was_held k a t.0 at t.1 held in
        subst (λ (c : CacheDecl). IsStopped w c p) (same_Some h.cache d (sym (cache_is k a t.0 at t.1 h) ∙ met)) (h.pass p passed).stops;
    freed = rec.freed;
  }

-- ---- what rises

each_cons : {A : Type 0} (P : A → Type 0) (x : A) (xs : List A) → Each P (x ∷ xs) → Each P xs
each_cons P x xs h j y e = h (suc j) y e

rising_append : (xs ys : List Counted) → Rising xs → Rising ys → Each (λ (c : Counted). Each (λ (d : Counted). d.place ≡ c.place → d.version ≤ c.version) xs) ys → Rising (xs ++ ys)
rising_append [] ys a b h = b
rising_append (x ∷ xs) ys a b h = (Each-append (λ (y : Counted). y.place ≡ x.place → x.version ≤ y.version) xs ys a.0 (λ j y e same. h j y e 0 x refl (sym same)), rising_append xs ys a.1 b (λ j y e i d f. h j y e (suc i) d f))

-- the counts of a worker's steps rise, and come after those that stood before
rises_along : (t : WorkerState) (mine : List Step) → AreStepsChained t mine → AllByRecursion (λ (x : Step). AreFresh x.before.core x.work.core.seen) mine
    → Rising (flat_map (λ (x : Step). x.work.core.seen) mine) × Each (λ (c : Counted). Each (λ (d : Counted). d.place ≡ c.place → d.version ≤ c.version) t.core.traces.seen) (flat_map (λ (x : Step). x.work.core.seen) mine)
rises_along t [] c h = (tt, λ j x e. absurd (some-ne-none x (sym e)))
rises_along t (x ∷ mine) c h =
    let rest = rises_along x.after mine c.2 h.1 in
    let seen : x.after.core.traces.seen ≡ t.core.traces.seen ++ x.work.core.seen = c.1.core.seen ∙ ap (λ (u : WorkerState). u.core.traces.seen ++ x.work.core.seen) c.0 in (
      rising_append x.work.core.seen (flat_map (λ (y : Step). y.work.core.seen) mine) h.0.rising rest.0
          (λ j e at i d f same. rest.1 j e at (length t.core.traces.seen + i) d (subst (λ l. get_elem? l (length t.core.traces.seen + i) ≡ some d) (sym seen) (later t.core.traces.seen x.work.core.seen i d f)) same),
      Each-append (λ (e : Counted). Each (λ (d : Counted). d.place ≡ e.place → d.version ≤ e.version) t.core.traces.seen) x.work.core.seen (flat_map (λ (y : Step). y.work.core.seen) mine)
          (λ j e at i d f same. (h.0.each j e at).seen i d (subst (λ (u : WorkerState). get_elem? u.core.traces.seen i ≡ some d) (sym c.0) f) same)
          (λ j e at i d f same. rest.1 j e at i d (at_begins t.core.traces.seen x.after.core.traces.seen i d (x.work.core.seen, seen) f) same),
    ) where
      later : (xs ys : List Counted) (i : ℕ) (d : Counted) → get_elem? ys i ≡ some d → get_elem? (xs ++ ys) (length xs + i) ≡ some d
      later [] ys i d e = subst (λ (n : ℕ). get_elem? ys n ≡ some d) (let z : i ≡ 0 + i = omega arith in z) e
      later (y ∷ xs) ys i d e = subst (λ (n : ℕ). get_elem? (y ∷ xs ++ ys) n ≡ some d) (let z : suc (length xs + i) ≡ suc (length xs) + i = omega arith in z) (later xs ys i d e)

-- ---- the versions at a place
abbrev at_k : ℕ → List Counted → List Counted
at_k k l = filter (λ (c : Counted). eqb c.place k) l

abbrev versions : List Counted → List ℕ
versions l = map (λ (c : Counted). c.version) l

at_both : (k : ℕ) (xs ys : List Counted) → at_k k (xs ++ ys) ≡ at_k k xs ++ at_k k ys
at_both k [] ys = refl
at_both k (x ∷ xs) ys = (elim (eqb x.place k) as (λ (b : Bool). at_k k (xs ++ ys) ≡ at_k k xs ++ at_k k ys → cond b (x ∷ at_k k (xs ++ ys)) (at_k k (xs ++ ys)) ≡ cond b (x ∷ at_k k xs) (at_k k xs) ++ at_k k ys) [ true ↦ λ e. ap (λ l. x ∷ l) e | false ↦ λ e. e ]) (at_both k xs ys)

-- the versions at one place of what rises don't fall
below_all : (k : ℕ) (x : Counted) (l : List Counted) → x.place ≡ k → Each (λ (y : Counted). y.place ≡ x.place → x.version ≤ y.version) l → AllByRecursion (λ v. x.version ≤ v) (versions (at_k k l))
below_all k x [] here h = tt
below_all k x (y ∷ l) here h = by_test (eqb y.place k) refl (below_all k x l here (each_cons (λ (z : Counted). z.place ≡ x.place → x.version ≤ z.version) y l h)) where
  by_test : (b : Bool) → eqb y.place k ≡ b → AllByRecursion (λ v. x.version ≤ v) (versions (at_k k l)) → AllByRecursion (λ v. x.version ≤ v) (versions (cond b (y ∷ at_k k l) (at_k k l)))
  by_test true e rest = (h 0 y refl (eqb-true y.place k e ∙ sym here), rest)
  by_test false e rest = rest

abbrev pub NotFalling : List ℕ → Type 0
NotFalling [] = Unit {0}
NotFalling (n ∷ ns) = AllByRecursion (λ m. n ≤ m) ns × NotFalling ns

not_falling : (k : ℕ) (l : List Counted) → Rising l → NotFalling (versions (at_k k l))
not_falling k [] h = tt
not_falling k (x ∷ l) h = (elim (eqb x.place k) as (λ (b : Bool). eqb x.place k ≡ b → NotFalling (versions (at_k k l)) → NotFalling (versions (cond b (x ∷ at_k k l) (at_k k l)))) [ true ↦ λ e rest. (below_all k x l (eqb-true x.place k e) h.0, rest) | false ↦ λ e rest. rest ]) refl (not_falling k l h.1)

-- the versions at a place that a walk tells of
module _ (place : Place) (w : WalkRecord) where
  abbrev told : Attempt → List ℕ
  told a = map (λ (c : Count). c.version) (counts_of a.outcome)

  abbrev made : Attempt → List Counted
  made a = map (λ (c : Count). record { place = place_number (place_in w a.id); len = c.len; version = c.version }) (counts_of a.outcome)

  same_versions : (k : ℕ) (cs : List Count) → versions (map (λ (c : Count). record { place = k; len = c.len; version = c.version }) cs) ≡ map (λ (c : Count). c.version) cs
  same_versions k [] = refl
  same_versions k (c ∷ cs) = ap (λ l. c.version ∷ l) (same_versions k cs)

  all_here : (k i : ℕ) (cs : List Count) → eqb i k ≡ true → at_k k (map (λ (c : Count). record { place = i; len = c.len; version = c.version }) cs) ≡ map (λ (c : Count). record { place = i; len = c.len; version = c.version }) cs
  all_here k i [] e = refl
  all_here k i (c ∷ cs) e = ap (λ b. cond b (record { place = i; len = c.len; version = c.version } ∷ at_k k (map (λ (d : Count). record { place = i; len = d.len; version = d.version }) cs)) (at_k k (map (λ (d : Count). record { place = i; len = d.len; version = d.version }) cs))) e
      ∙ ap (λ l. record { place = i; len = c.len; version = c.version } ∷ l) (all_here k i cs e)

  none_here : (k i : ℕ) (cs : List Count) → eqb i k ≡ false → at_k k (map (λ (c : Count). record { place = i; len = c.len; version = c.version }) cs) ≡ []
  none_here k i [] e = refl
  none_here k i (c ∷ cs) e = ap (λ b. cond b (record { place = i; len = c.len; version = c.version } ∷ at_k k (map (λ (d : Count). record { place = i; len = d.len; version = d.version }) cs)) (at_k k (map (λ (d : Count). record { place = i; len = d.len; version = d.version }) cs))) e
      ∙ none_here k i cs e

  walk_versions : (xs : List Attempt) → ((j : ℕ) (a : Attempt) → slice_get xs j ≡ Some a → eqb (place_number (place_in w a.id)) (place_number place) ≡ is_place place (place_in w a.id))
      → flat_map told (filter (λ (a : Attempt). is_place place (place_in w a.id)) xs) ≡ versions (at_k (place_number place) (flat_map made xs))
  walk_versions [] h = refl
  walk_versions (a ∷ xs) h = by_test (is_place place (place_in w a.id)) refl (walk_versions xs (λ j b e. h (suc j) b e)) where
    by_test : (b : Bool) → is_place place (place_in w a.id) ≡ b → flat_map told (filter (λ (y : Attempt). is_place place (place_in w y.id)) xs) ≡ versions (at_k (place_number place) (flat_map made xs))
        → flat_map told (cond b (a ∷ filter (λ (y : Attempt). is_place place (place_in w y.id)) xs) (filter (λ (y : Attempt). is_place place (place_in w y.id)) xs)) ≡ versions (at_k (place_number place) (made a ++ flat_map made xs))
    by_test true e rest = ap (λ l. told a ++ l) rest ∙ sym (ap versions (at_both (place_number place) (made a) (flat_map made xs))
        ∙ (map-append (λ (c : Counted). c.version) (at_k (place_number place) (made a)) (at_k (place_number place) (flat_map made xs))
        ∙ ap (λ l. l ++ versions (at_k (place_number place) (flat_map made xs))) (ap versions (all_here (place_number place) (place_number (place_in w a.id)) (counts_of a.outcome) (h 0 a refl ∙ e)) ∙ same_versions (place_number (place_in w a.id)) (counts_of a.outcome))))
    by_test false e rest = rest ∙ sym (ap versions (at_both (place_number place) (made a) (flat_map made xs) ∙ ap (λ l. l ++ at_k (place_number place) (flat_map made xs)) (none_here (place_number place) (place_number (place_in w a.id)) (counts_of a.outcome) (h 0 a refl ∙ e))))

module _ (s : Script) (r : Report) (workers : List (List Step)) (run : IsRun s r workers) where
  -- the numbers of places of the script are one only where they are
  same_test : (p q : Place) → IsThere s p → IsThere s q → eqb (place_number q) (place_number p) ≡ is_place p q
  same_test p q tp tq = by_test (is_place p q) refl where
    by_test : (b : Bool) → is_place p q ≡ b → eqb (place_number q) (place_number p) ≡ b
    by_test true e = eq-eqb (place_number q) (place_number p) (ap place_number (sym (is_place_same p q e)))
    by_test false e = ne_eqb (place_number q) (place_number p) (λ same. let own : q ≡ p = sym (back_there s r workers run q tq) ∙ (ap place_at same ∙ back_there s r workers run p tp) in
        let t : true ≡ false = sym (ap (is_place p) own ∙ is_place_itself p) ∙ e in let f : ⊥ = cc in f)

  versions_mine : (place : Place) → IsThere s place → (ws : List WalkRecord) → ((i : ℕ) (w : WalkRecord) → slice_get ws i ≡ Some w → (j : ℕ) (a : Attempt) → slice_get w.attempts.items j ≡ Some a → IsThere s (place_in w a.id))
      → flat_map (versions_at place) ws ≡ versions (at_k (place_number place) (flat_map counted_in ws))
  versions_mine place there [] h = refl
  versions_mine place there (w ∷ ws) h = ap (λ l. versions_at place w ++ l) (versions_mine place there ws (λ i v e. h (suc i) v e))
      ∙ (ap (λ l. l ++ versions (at_k (place_number place) (flat_map counted_in ws))) (walk_versions place w w.attempts.items (λ j a e. same_test place (place_in w a.id) there (h 0 w refl j a e)))
      ∙ sym (ap versions (at_both (place_number place) (counted_in w) (flat_map counted_in ws)) ∙ map-append (λ (c : Counted). c.version) (at_k (place_number place) (counted_in w)) (at_k (place_number place) (flat_map counted_in ws))))

  flat_counted : (mine : List Step) → AllByRecursion (λ (x : Step). flat_map counted_in x.work.walks ≡ x.work.core.seen) mine → flat_map counted_in (flat_map (λ (x : Step). x.work.walks) mine) ≡ flat_map (λ (x : Step). x.work.core.seen) mine
  flat_counted [] h = refl
  flat_counted (x ∷ mine) h = flat_map-append counted_in x.work.walks (flat_map (λ (y : Step). y.work.walks) mine) ∙ (ap (λ l. l ++ flat_map counted_in (flat_map (λ (y : Step). y.work.walks) mine)) h.0 ∙ ap (λ l. x.work.core.seen ++ l) (flat_counted mine h.1))

  pub versions_fall_not : (worker : ℕ) (place : Place) → AreNotFalling (flat_map (versions_at place) (walks_of r worker))
  versions_fall_not worker place = ⊎_elim within outside (there_or_not s place) where
    attempts_there : (i : ℕ) (w : WalkRecord) → slice_get (walks_of r worker) i ≡ Some w → (j : ℕ) (a : Attempt) → slice_get w.attempts.items j ≡ Some a → IsThere s (place_in w a.id)
    attempts_there i w e j a d = attempt_there s r workers run worker i w (walk_of s r workers run worker i w e) j a d

    all_mine : (P : Step → Type 0) → ((k : ℕ) (x : Step) → slice_get (steps_of workers worker) k ≡ Some x → P x) → AllByRecursion P (steps_of workers worker)
    all_mine P h = by_slices P (steps_of workers worker) h

    within : IsThere s place → AreNotFalling (flat_map (versions_at place) (walks_of r worker))
    within there = subst AreNotFalling (sym (versions_mine place there (walks_of r worker) attempts_there
        ∙ ap (λ l. versions (at_k (place_number place) l)) (ap (flat_map counted_in) (run.steps.walks worker) ∙ flat_counted (steps_of workers worker) (all_mine (λ (x : Step). flat_map counted_in x.work.walks ≡ x.work.core.seen) (λ k x e. (run.steps.each worker k x e).did.walks.seen)))))
        (adjacent (versions (at_k (place_number place) (flat_map (λ (x : Step). x.work.core.seen) (steps_of workers worker))))
        (not_falling (place_number place) (flat_map (λ (x : Step). x.work.core.seen) (steps_of workers worker))
        (rises_along (run.steps.first worker) (steps_of workers worker) (run.steps.chained worker) (all_mine (λ (x : Step). AreFresh x.before.core x.work.core.seen) (λ k x e. (run.steps.each worker k x e).did.walks.fresh))).0))

    outside : (IsThere s place → ⊥) → AreNotFalling (flat_map (versions_at place) (walks_of r worker))
    outside out = subst AreNotFalling (sym (flat_zero (versions_at place) (walks_of r worker) (λ i w e. ap (flat_map (λ (a : Attempt). map (λ (c : Count). c.version) (counts_of a.outcome)))
        (filter_none (λ (a : Attempt). is_place place (place_in w a.id)) w.attempts.items (λ j a d. no_test (is_place place (place_in w a.id)) (λ same. out (subst (IsThere s) (sym (is_place_same place (place_in w a.id) same)) (attempts_there i w e j a d)))))))) (λ k d lt. absurd (omega arith))
