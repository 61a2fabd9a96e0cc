-- SPDX-License-Identifier: GPL-2.0-only
-- What the steps of all workers have: which step has it, that only one has, and who made an entry.
use Rattle.shr_lawful.proofs.Common.{◌≡◌, ℕ, zero, suc, ◌+◌, ◌<◌, ◌≤◌, ◌≢◌, ◌⊎◌, inl, inr, ⊎_elim, List, [], ◌∷◌, ◌++◌, length, length-append, take, sym, refl, ap, subst, ◌∙◌, arith, flat_map, slice_get, Some, AllByRecursion, same_Some, none-some, dite, ℕ_discrete, some, some-injective, some-ne-none, get_elem?, Each, total, Begins, term_le, Step, IsAmong, gathered, steps_in, steps_of, at_some, slice_left, some_at, slice_cases, terms_le, total_flat, begins_all, begins_more, WorkerState, AreStepsChained, Grows, BringsWork, Bool, true, false, cond, get_or, eqb, eq-eqb, ne_eqb, Option, None, nat_lt, option_map, option_and_then, lt-ltb, slice_get_within, slice_get-get_or, Place, Entry, Script, place_number, some_term, place_at, Made, hit, place_back, Report, parents_of, journals_of, IsThere, serial_of, commands_of, command_at, answers_of, answer_at, reply_at, cited_at, cited_by, Serial, Command, Answered, Reply, Did, StandsIn, all_made, IsRun, worker_state_after}

-- elements of two lists together
pub among_left : {A : Type 0} (xs ys : List A) (x : A) → IsAmong x xs → IsAmong x (xs ++ ys)
among_left [] ys x (j, e) = absurd (some-ne-none x (sym e))
among_left (y ∷ xs) ys x (zero, e) = (zero, e)
among_left (y ∷ xs) ys x (suc j, e) = let r = among_left xs ys x (j, e) in (suc r.0, r.1)

pub among_right : {A : Type 0} (xs ys : List A) (x : A) → IsAmong x ys → IsAmong x (xs ++ ys)
among_right [] ys x h = h
among_right (y ∷ xs) ys x h = let r = among_right xs ys x h in (suc r.0, r.1)

pub among_cases : {A : Type 0} (xs ys : List A) (x : A) → IsAmong x (xs ++ ys) → IsAmong x xs ⊎ IsAmong x ys
among_cases [] ys x h = inr h
among_cases (y ∷ xs) ys x (zero, e) = inl (zero, e)
among_cases (y ∷ xs) ys x (suc j, e) = ⊎_elim (λ a. inl (suc a.0, a.1)) (λ b. inr b) (among_cases xs ys x (j, e))

-- an element of a beginning is one of the whole
pub among_begins : {A : Type 0} (xs ys : List A) (x : A) → Begins xs ys → IsAmong x xs → IsAmong x ys
among_begins {A} xs ys x b h = subst (λ (l : List A). IsAmong x l) (sym b.1) (among_left xs b.0 x h)

pub among_flat : {A B : Type 0} (f : A → List B) (xs : List A) (x : A) (y : B) → IsAmong x xs → IsAmong y (f x) → IsAmong y (flat_map f xs)
among_flat f [] x y (j, e) h = absurd (some-ne-none x (sym e))
among_flat f (z ∷ xs) x y (zero, e) h = among_left (f z) (flat_map f xs) y (subst (λ v. IsAmong y (f v)) (sym (some-injective z x e)) h)
among_flat f (z ∷ xs) x y (suc j, e) h = among_right (f z) (flat_map f xs) y (among_flat f xs x y (j, e) h)

pub flat_among : {A B : Type 0} (f : A → List B) (xs : List A) (y : B) → IsAmong y (flat_map f xs) → (x : A) × IsAmong x xs × IsAmong y (f x)
flat_among f [] y (j, e) = absurd (some-ne-none y (sym e))
flat_among f (x ∷ xs) y h = ⊎_elim (λ a. (x, (zero, refl), a)) (λ b. let r = flat_among f xs y b in (r.0, (suc r.1.0, r.1.1), r.2)) (among_cases (f x) (flat_map f xs) y h)

-- what holds of each element holds of one
pub each_among : {A : Type 0} (P : A → Type 0) (xs : List A) (x : A) → Each P xs → IsAmong x xs → P x
each_among P xs x all h = all h.0 x h.1

pub total_same_on : {A : Type 0} (g h : A → ℕ) (xs : List A) → ((x : A) → g x ≡ h x) → total g xs ≡ total h xs
total_same_on g h [] e = refl
total_same_on g h (x ∷ xs) e = omega (arith, e x, total_same_on g h xs e)

pub total_gathered : {A : Type 0} (g : A → ℕ) (f : Step → List A) (workers : List (List Step)) → total g (gathered f workers) ≡ total (λ mine. total (λ x. total g (f x)) mine) workers
total_gathered g f workers = total_flat g (λ (mine : List Step). flat_map f mine) workers ∙ total_same_on (λ mine. total g (flat_map f mine)) (λ mine. total (λ x. total g (f x)) mine) workers (λ mine. total_flat g f mine)

-- the list of a worker that has a step
pub mine_at : (workers : List (List Step)) (worker k : ℕ) (x : Step) → slice_get (steps_of workers worker) k ≡ Some x → slice_get workers worker ≡ Some (steps_of workers worker)
mine_at [] worker k x e = absurd (none-some x e)
mine_at (m ∷ ws) zero k x e = refl
mine_at (m ∷ ws) (suc worker) k x e = mine_at ws worker k x e

pub mine_is : (workers : List (List Step)) (worker : ℕ) (mine : List Step) → slice_get workers worker ≡ Some mine → steps_of workers worker ≡ mine
mine_is workers worker mine e = ap steps_in e

-- what a step has, and the step of what some step has
pub gathered_has : {A : Type 0} (f : Step → List A) (workers : List (List Step)) (worker k : ℕ) (x : Step) (y : A) → slice_get (steps_of workers worker) k ≡ Some x → IsAmong y (f x) → IsAmong y (gathered f workers)
gathered_has f workers worker k x y at h = among_flat (λ (mine : List Step). flat_map f mine) workers (steps_of workers worker) y (worker, some_at workers worker (steps_of workers worker) (mine_at workers worker k x at))
    (among_flat f (steps_of workers worker) x y (k, some_at (steps_of workers worker) k x at) h)

pub record HasStep {A : Type 0} (f : Step → List A) (workers : List (List Step)) (y : A) : Type 0 where
  pub worker : ℕ
  pub k : ℕ
  pub step : Step
  pub at : slice_get (steps_of workers worker) k ≡ Some step
  pub has : IsAmong y (f step)

pub has_step : {A : Type 0} (f : Step → List A) (workers : List (List Step)) (y : A) → IsAmong y (gathered f workers) → HasStep f workers y
has_step f workers y h =
    let w = flat_among (λ (mine : List Step). flat_map f mine) workers y h in
    let x = flat_among f w.0 y w.2 in
    let mine : steps_of workers w.1.0 ≡ w.0 = mine_is workers w.1.0 w.0 (at_some workers w.1.0 w.0 w.1.1) in
    record { worker = w.1.0; k = x.1.0; step = x.0; at = ap (λ l. slice_get l x.1.0) mine ∙ at_some w.0 x.1.0 x.0 x.1.1; has = x.2 }

-- an element that weighs something makes the sum do
pub weighs : {A : Type 0} (g : A → ℕ) (xs : List A) (x : A) → IsAmong x xs → g x ≤ total g xs
weighs g xs x h = term_le g xs h.0 x h.1

-- where the sum is at most 1, two steps that have a share of it are one
pub one_step : {A : Type 0} (g : A → ℕ) (f : Step → List A) (workers : List (List Step)) → total g (gathered f workers) ≤ 1 → (v k w l : ℕ) (x y : Step)
    → slice_get (steps_of workers v) k ≡ Some x → slice_get (steps_of workers w) l ≡ Some y → 0 < total g (f x) → 0 < total g (f y) → (v ≡ w) × (k ≡ l)
one_step g f workers most v k w l x y at_x at_y some_x some_y = dite (ℕ_discrete v w) same other where
  share : Step → ℕ
  share z = total g (f z)

  mine : ℕ → List Step
  mine u = steps_of workers u

  whole : total (λ m. total share m) workers ≤ 1
  whole = omega (arith, most, total_gathered g f workers)

  of_x : share x ≤ total share (mine v)
  of_x = term_le share (mine v) k x (some_at (mine v) k x at_x)

  of_y : share y ≤ total share (mine w)
  of_y = term_le share (mine w) l y (some_at (mine w) l y at_y)

  other : v ≢ w → (v ≡ w) × (k ≡ l)
  other n = absurd (omega (arith, whole, of_x, of_y, some_x, some_y, terms_le (λ m. total share m) workers v w (mine v) (mine w) (λ e. n (sym e)) (some_at workers v (mine v) (mine_at workers v k x at_x)) (some_at workers w (mine w) (mine_at workers w l y at_y))))

  same : v ≡ w → (v ≡ w) × (k ≡ l)
  same e = dite (ℕ_discrete k l) (λ d. (e, d)) (λ n. absurd (omega (
    arith,
    whole,
    some_x,
    some_y,
    term_le (λ m. total share m) workers v (mine v) (some_at workers v (mine v) (mine_at workers v k x at_x)),
    terms_le share (mine v) k l x y (λ d. n (sym d)) (some_at (mine v) k x at_x) (subst (λ u. get_elem? (mine u) l ≡ some y) (sym e) (some_at (mine w) l y at_y)),
  )))

-- the step at two equal pairs of numbers
pub same_step : (workers : List (List Step)) (v k w l : ℕ) (x y : Step) → slice_get (steps_of workers v) k ≡ Some x → slice_get (steps_of workers w) l ≡ Some y → v ≡ w → k ≡ l → x ≡ y
same_step workers v k w l x y at_x at_y e d = same_Some x y (sym at_x ∙ (ap (λ u. slice_get (steps_of workers u) k) e ∙ (ap (λ m. slice_get (steps_of workers w) m) d ∙ at_y)))

-- what holds of each step by its numbers holds of all of them
pub each_step : (P : Step → Type 0) (workers : List (List Step)) → ((worker k : ℕ) (x : Step) → slice_get (steps_of workers worker) k ≡ Some x → P x) → AllByRecursion (λ (mine : List Step). AllByRecursion P mine) workers
each_step P [] h = tt
each_step P (mine ∷ workers) h = (each P mine (λ k x e. h 0 k x e), each_step P workers (λ worker k x e. h (suc worker) k x e)) where
  each : (P : Step → Type 0) (mine : List Step) → ((k : ℕ) (x : Step) → slice_get mine k ≡ Some x → P x) → AllByRecursion P mine
  each P [] h = tt
  each P (x ∷ mine) h = (h 0 x refl, each P mine (λ k y e. h (suc k) y e))

-- where an element of a flat list comes from
pub record FlatAt {A B : Type 0} (f : A → List B) (xs : List A) (n : ℕ) (y : B) : Type 0 where
  pub k : ℕ
  pub i : ℕ
  pub x : A
  pub at : slice_get xs k ≡ Some x
  pub own : slice_get (f x) i ≡ Some y
  pub number : n ≡ length (flat_map f (take k xs)) + i

pub flat_at : {A B : Type 0} (f : A → List B) (xs : List A) (n : ℕ) (y : B) → slice_get (flat_map f xs) n ≡ Some y → FlatAt f xs n y
flat_at f [] n y e = absurd (none-some y e)
flat_at f (x ∷ xs) n y e = ⊎_elim (λ a. record { k = 0; i = n; x = x; at = refl; own = a; number = omega arith })
    (λ b. let t = flat_at f xs b.0 y b.2 in record { k = suc t.k; i = t.i; x = t.x; at = t.at; own = t.own; number = omega (arith, b.1, t.number, length-append (f x) (flat_map f (take t.k xs))) })
    (slice_cases (f x) (flat_map f xs) n y e)

slice_right : {A : Type 0} (xs ys : List A) (n m : ℕ) (x : A) → n ≡ length xs + m → slice_get ys m ≡ Some x → slice_get (xs ++ ys) n ≡ Some x
slice_right [] ys n m x e at = ap (slice_get ys) (let z : n ≡ m = omega (arith, e) in z) ∙ at
slice_right (y ∷ xs) ys zero m x e at = absurd (omega (arith, e))
slice_right (y ∷ xs) ys (suc n) m x e at = slice_right xs ys n m x (omega (arith, e)) at

pub flat_there : {A B : Type 0} (f : A → List B) (xs : List A) (k i n : ℕ) (x : A) (y : B) → slice_get xs k ≡ Some x → slice_get (f x) i ≡ Some y → n ≡ length (flat_map f (take k xs)) + i → slice_get (flat_map f xs) n ≡ Some y
flat_there f [] k i n x y at own e = absurd (none-some x at)
flat_there f (z ∷ xs) zero i n x y at own e = slice_left (f z) (flat_map f xs) n y (ap (λ v. slice_get (f v) n) (same_Some z x at) ∙ (ap (slice_get (f x)) (let d : n ≡ i = omega (arith, e) in d) ∙ own))
flat_there f (z ∷ xs) (suc k) i n x y at own e = slice_right (f z) (flat_map f xs) n (length (flat_map f (take k xs)) + i) y (omega (arith, e, length-append (f z) (flat_map f (take k xs)))) (flat_there f xs k i (length (flat_map f (take k xs)) + i) x y at own refl)

pub grows_none : (s : WorkerState) → Grows s s
grows_none s = record { made = begins_all _; seen = begins_all _; known = begins_all _; sets = begins_all _; pool = begins_all _; dated = begins_all _; tree = begins_all _; words = begins_all _; walks = begins_all _ }

pub grows_then : (s t u : WorkerState) → Grows s t → Grows t u → Grows s u
grows_then s t u a b = record {
  made = begins_more _ _ _ a.made b.made;
  seen = begins_more _ _ _ a.seen b.seen;
  known = begins_more _ _ _ a.known b.known;
  sets = begins_more _ _ _ a.sets b.sets;
  pool = begins_more _ _ _ a.pool b.pool;
  dated = begins_more _ _ _ a.dated b.dated;
  tree = begins_more _ _ _ a.tree b.tree;
  words = begins_more _ _ _ a.words b.words;
  walks = begins_more _ _ _ a.walks b.walks;
}

-- what a step adds is more
pub step_grows : (x : Step) → BringsWork x.before x.after x.work → Grows x.before x.after
step_grows x d = record {
  made = (x.work.core.made, d.core.made);
  seen = (x.work.core.seen, d.core.seen);
  known = d.core.known;
  sets = (x.work.core.sets, d.core.sets);
  pool = d.core.pool;
  dated = d.core.dated;
  tree = d.known;
  words = (x.work.words, d.words);
  walks = (x.work.walks, d.walks);
}

-- each step of a chain does its work
pub does_at : (s : WorkerState) (mine : List Step) (k : ℕ) (x : Step) → AreStepsChained s mine → slice_get mine k ≡ Some x → BringsWork x.before x.after x.work
does_at s [] k x c e = absurd (none-some x e)
does_at s (y ∷ mine) zero x c e = subst (λ (z : Step). BringsWork z.before z.after z.work) (same_Some y x e) c.1
does_at s (y ∷ mine) (suc k) x c e = does_at y.after mine k x c.2 e

-- What holds of each state and itself, over a third where it holds twice, and of the states before and behind each step, holds along steps.
module _ (R : WorkerState → WorkerState → Type 0) (self : (s : WorkerState) → R s s) (more : (s t u : WorkerState) → R s t → R t u → R s u)
    (one : (x : Step) → BringsWork x.before x.after x.work → R x.before x.after) where
  -- of the first state and each later one
  pub first_along : (s : WorkerState) (mine : List Step) (k : ℕ) (x : Step) → AreStepsChained s mine → slice_get mine k ≡ Some x → R s x.before
  first_along s [] k x c e = absurd (none-some x e)
  first_along s (y ∷ mine) zero x c e = subst (λ (u : WorkerState). R u x.before) (ap (λ (z : Step). z.before) (sym (same_Some y x e)) ∙ c.0) (self x.before)
  first_along s (y ∷ mine) (suc k) x c e = more s y.after x.before (subst (λ (u : WorkerState). R u y.after) c.0 (one y c.1)) (first_along y.after mine k x c.2 e)

  -- of the state behind a step and that before each later one
  pub later_along : (s : WorkerState) (mine : List Step) (k later : ℕ) (x y : Step) → AreStepsChained s mine → k < later → slice_get mine k ≡ Some x → slice_get mine later ≡ Some y → R x.after y.before
  later_along s [] k later x y c lt e d = absurd (none-some x e)
  later_along s (z ∷ mine) k zero x y c lt e d = absurd (omega arith)
  later_along s (z ∷ mine) zero (suc later) x y c lt e d = subst (λ (v : Step). R v.after y.before) (same_Some z x e) (first_along z.after mine later y c.2 d)
  later_along s (z ∷ mine) (suc k) (suc later) x y c lt e d = later_along z.after mine k later x y c.2 (omega arith) e d

  last_along : (s : WorkerState) (mine : List Step) → AreStepsChained s mine → R s (worker_state_after s mine)
  last_along s [] c = self s
  last_along s (x ∷ mine) c = more s x.after (worker_state_after x.after mine) (subst (λ (u : WorkerState). R u x.after) c.0 (one x c.1)) (last_along x.after mine c.2)

  -- of the state behind a step and the last one
  pub after_along : (s : WorkerState) (mine : List Step) (k : ℕ) (x : Step) → AreStepsChained s mine → slice_get mine k ≡ Some x → R x.after (worker_state_after s mine)
  after_along s [] k x c e = absurd (none-some x e)
  after_along s (y ∷ mine) zero x c e = subst (λ (z : Step). R z.after (worker_state_after y.after mine)) (same_Some y x e) (last_along y.after mine c.2)
  after_along s (y ∷ mine) (suc k) x c e = after_along y.after mine k x c.2 e

-- the first state is the beginning of each later one
pub first_grows : (s : WorkerState) (mine : List Step) (k : ℕ) (x : Step) → AreStepsChained s mine → slice_get mine k ≡ Some x → Grows s x.before
first_grows = first_along Grows grows_none grows_then (λ x b. step_grows x b)

-- what a worker had after a step it has before each later one
pub later_grows : (s : WorkerState) (mine : List Step) (k later : ℕ) (x y : Step) → AreStepsChained s mine → k < later → slice_get mine k ≡ Some x → slice_get mine later ≡ Some y → Grows x.after y.before
later_grows = later_along Grows grows_none grows_then (λ x b. step_grows x b)

-- the test of a hit
pub hit_parts : (k n : ℕ) (m : Made) → 0 < hit k n m → (m.place ≡ k) × (m.number ≡ n)
hit_parts k n m h = dite (ℕ_discrete m.place k)
    (λ p. dite (ℕ_discrete m.number n) (λ q. (p, q)) (λ ne. absurd (omega (arith, h, ap (λ b. cond {A = ℕ} b (cond {A = ℕ} (eqb m.number n) 1 0) 0) (eq-eqb m.place k p) ∙ ap (λ b. cond {A = ℕ} b 1 0) (ne_eqb m.number n ne)))))
    (λ ne. absurd (omega (arith, h, ap (λ b. cond {A = ℕ} b (cond {A = ℕ} (eqb m.number n) 1 0) 0) (ne_eqb m.place k ne))))

-- a test of an order that holds
pub below_one : (n l : ℕ) → n < l → ◌≡◌ {A = ℕ} (cond (nat_lt n l) 1 0) 1
below_one n l h = ap (λ b. cond b 1 0) (lt-ltb n l h)

pub below_most : (n l : ℕ) → cond {A = ℕ} (nat_lt n l) 1 0 ≤ 1
below_most n l = elim (nat_lt n l) as (λ (b : Bool). cond {A = ℕ} b 1 0 ≤ 1) [ true ↦ omega arith | false ↦ omega arith ]

first_of_list : {A : Type 0} (xs : List A) → 0 < length xs → A
first_of_list [] h = absurd (omega arith)
first_of_list (x ∷ xs) h = x

module _ (s : Script) (r : Report) (workers : List (List Step)) (run : IsRun s r workers) where
  pub work_of : (worker k : ℕ) (x : Step) → slice_get (steps_of workers worker) k ≡ Some x → BringsWork x.before x.after x.work
  work_of worker k x at = does_at (run.steps.first worker) (steps_of workers worker) k x (run.steps.chained worker) at

  pub grows : (worker k later : ℕ) (x y : Step) → k < later → slice_get (steps_of workers worker) k ≡ Some x → slice_get (steps_of workers worker) later ≡ Some y → Grows x.after y.before
  grows worker k later x y lt at_x at_y = later_grows (run.steps.first worker) (steps_of workers worker) k later x y (run.steps.chained worker) lt at_x at_y

  -- a place of the script has its number
  pub back_there : (place : Place) → IsThere s place → place_at (place_number place) ≡ place
  back_there place there = place_back place (omega (arith, there.node, run.sized.nodes)) (omega (arith, there.group, run.sized.groups))

  -- an entry that a step made stands
  pub made_stands : (worker k : ℕ) (x : Step) → slice_get (steps_of workers worker) k ≡ Some x → Each (λ (m : Made). IsThere s (place_at m.place) × StandsIn (parents_of s) (journals_of r) m) x.work.core.made
  made_stands worker k x at j m e = let h = among_right x.before.core.traces.made x.work.core.made m (j, e) in
      (run.steps.shown worker k x at).made h.0 m (subst (λ l. IsAmong m l) (sym (work_of worker k x at).core.made) h).1

  -- the step that made an entry
  pub record Maker (place : Place) (n : ℕ) (e : Entry) : Type 0 where
    pub worker : ℕ
    pub k : ℕ
    pub step : Step
    pub at : slice_get (steps_of workers worker) k ≡ Some step
    pub made : Made
    pub among : IsAmong made step.work.core.made
    pub place_is : place_at made.place ≡ place
    pub number : made.number ≡ n
    pub entry : made.entry ≡ e

  pub maker : (place : Place) (n : ℕ) (e : Entry) → slice_get (journals_of r place) n ≡ Some e → Maker place n e
  maker place n e stands =
      let there : IsThere s place = run.journals.there place (omega (arith, slice_get_within (journals_of r place) n e stands)) in
      let back : place_at (place_number place) ≡ place = back_there place there in
      let within : n < length (journals_of r (place_at (place_number place))) = subst (λ p. n < length (journals_of r p)) (sym back) (slice_get_within (journals_of r place) n e stands) in
      let one : total (hit (place_number place) n) (all_made workers) ≡ 1 = run.journals.once (place_number place) n ∙ below_one n (length (journals_of r (place_at (place_number place)))) within in
      let some_made = some_term (hit (place_number place) n) (all_made workers) (omega (arith, one)) in
      let m : Made = some_made.1 in
      let parts = hit_parts (place_number place) n m some_made.3 in
      let of : HasStep (λ (x : Step). x.work.core.made) workers m = has_step (λ (x : Step). x.work.core.made) workers m (some_made.0, some_made.2) in
      let here : place_at m.place ≡ place = ap place_at parts.0 ∙ back in
      let entry : slice_get (journals_of r (place_at m.place)) m.number ≡ Some m.entry = (made_stands of.worker of.k of.step of.at of.has.0 m of.has.1).1.entry in
      record {
        worker = of.worker;
        k = of.k;
        step = of.step;
        at = of.at;
        made = m;
        among = of.has;
        place_is = here;
        number = parts.1;
        entry = same_Some m.entry e (sym entry ∙ (ap (λ p. slice_get (journals_of r p) m.number) here ∙ (ap (λ i. slice_get (journals_of r place) i) parts.1 ∙ stands)));
      }

  -- the step of an answered command
  pub record Stepped (by : Serial) (c : Command) (a : Answered) : Type 0 where
    pub step : Step
    pub at : slice_get (steps_of workers by.worker) by.command ≡ Some step
    pub own : step.by ≡ by
    pub command : step.command ≡ Some c
    pub answered : step.answered ≡ a
    pub did : Did s step

  pub stepped : (by : Serial) (c : Command) (a : Answered) → command_at s by ≡ Some c → answer_at r by ≡ Some a → Stepped by c a
  stepped by c a command answer = by_cases (slice_get (steps_of workers by.worker) by.command) refl where
    within : by.command < length (steps_of workers by.worker)
    within = omega (arith, slice_get_within (answers_of r by.worker) by.command a answer, run.steps.answers by.worker)

    by_cases : (o : Option Step) → slice_get (steps_of workers by.worker) by.command ≡ o → Stepped by c a
    by_cases None e = absurd (none-some _ (sym e ∙ slice_get-get_or (steps_of workers by.worker) by.command (nowhere within) within)) where
      nowhere : by.command < length (steps_of workers by.worker) → Step
      nowhere lt = first_of_list (steps_of workers by.worker) (omega (arith, lt))
    by_cases (Some x) e = let is = run.steps.each by.worker by.command x e in record {
      step = x;
      at = e;
      own = is.by;
      command = sym is.command ∙ command;
      answered = same_Some x.answered a (sym is.answered ∙ answer);
      did = is.did;
    }

  -- what the report has of a step
  pub answer_is : (worker k : ℕ) (x : Step) → slice_get (steps_of workers worker) k ≡ Some x → answer_at r (serial_of worker k) ≡ Some x.answered
  answer_is worker k x at = (run.steps.each worker k x at).answered

  pub reply_is : (worker k : ℕ) (x : Step) → slice_get (steps_of workers worker) k ≡ Some x → reply_at r (serial_of worker k) ≡ Some x.answered.reply
  reply_is worker k x at = ap (λ (o : Option Answered). option_map (λ (a : Answered). a.reply) o) (answer_is worker k x at)

  pub cited_is : (worker k : ℕ) (x : Step) → slice_get (steps_of workers worker) k ≡ Some x → cited_at r (serial_of worker k) ≡ cited_by x.answered.reply
  cited_is worker k x at = ap (option_and_then cited_by) (reply_is worker k x at)

  -- the step of an answer, and of a reply that is some function's
  pub record Answers (worker k : ℕ) (a : Answered) : Type 0 where
    pub step : Step
    pub at : slice_get (steps_of workers worker) k ≡ Some step
    pub answered : step.answered ≡ a

  pub answers : (worker k : ℕ) (a : Answered) → answer_at r (serial_of worker k) ≡ Some a → Answers worker k a
  answers worker k a answer =
      let within : k < length (steps_of workers worker) = omega (arith, slice_get_within (answers_of r worker) k a answer, run.steps.answers worker) in
      let x : Step = get_or (steps_of workers worker) k (first_of_list (steps_of workers worker) (omega (arith, within))) in
      let at : slice_get (steps_of workers worker) k ≡ Some x = slice_get-get_or (steps_of workers worker) k (first_of_list (steps_of workers worker) (omega (arith, within))) within in
      record { step = x; at = at; answered = same_Some x.answered a (sym (answer_is worker k x at) ∙ answer) }

  pub record Replies {A : Type 0} (f : Reply → Option A) (worker k : ℕ) (c : A) : Type 0 where
    pub step : Step
    pub at : slice_get (steps_of workers worker) k ≡ Some step
    pub reply : f step.answered.reply ≡ Some c

  pub replies : {A : Type 0} (f : Reply → Option A) (worker k : ℕ) (c : A) → option_and_then f (reply_at r (serial_of worker k)) ≡ Some c → Replies f worker k c
  replies {A} f worker k c h = by_cases (answer_at r (serial_of worker k)) refl where
    by_cases : (o : Option Answered) → answer_at r (serial_of worker k) ≡ o → Replies f worker k c
    by_cases None e = absurd (none-some c (sym (ap (λ (z : Option Answered). option_and_then f (option_map (λ (a : Answered). a.reply) z)) e) ∙ h))
    by_cases (Some a) e = let t = answers worker k a e in record {
      step = t.step;
      at = t.at;
      reply = ap (λ (y : Answered). f y.reply) t.answered ∙ (sym (ap (λ (z : Option Answered). option_and_then f (option_map (λ (y : Answered). y.reply) z)) e) ∙ h);
    }

  -- the step of a command
  pub command_step : (worker k : ℕ) (c : Command) → command_at s (serial_of worker k) ≡ Some c → (x : Step) × (slice_get (steps_of workers worker) k ≡ Some x)
  command_step worker k c command =
      let within : k < length (steps_of workers worker) = omega (arith, slice_get_within (commands_of s worker) k c command, run.steps.commands worker) in
      let d : Step = first_of_list (steps_of workers worker) (omega (arith, within)) in
      (get_or (steps_of workers worker) k d, slice_get-get_or (steps_of workers worker) k d within)
