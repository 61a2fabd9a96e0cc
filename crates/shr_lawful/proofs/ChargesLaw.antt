-- SPDX-License-Identifier: GPL-2.0-only
-- The law of charges, of a run.
use Rattle.shr_lawful.proofs.Common.{◌≡◌, ℕ, zero, suc, ◌+◌, ◌<◌, ◌≤◌, ◌⊎◌, inl, inr, ⊎_elim, Bool, true, false, cond, List, [], ◌∷◌, length, drop, map, sym, refl, ap, subst, ◌∙◌, arith, eqb, eq-eqb, slice_get, Some, None, Option, find, filter, sum_by, pos, ◌-ℤ◌, MatchOption, AllByRecursion, enumerate_from, IsSomeAnd, and_parts, and_from, eqb-true, cases_Bool, same_Some, none-some, slice_get_past, UseStep, Entry, Add, Drop, Scan, Drained, Object, Place, Serial, Command, Put, On, Get, Del, SetPin, Script, ups, usage_after, is_by, ops_by, IsDownNext, AreTakenBack, is_serial, is_put, items_at, is_at_or_above, born_below, freed_by, by_of, Has, filter_has, total, place_at, Made, Report, parents_of, limit_of, journals_of, places_of, serial_of, command_at, commands_of, reply_at, uses_at, entry_by, at, id_found, IsDownBetween, charged, Step, IsAmong, steps_of, IsPut, ops_at, IsTenantEntry, IsDrainedByCommand, MayMakeEntry, all_made, IsRun, all_zero, at_some, by_slices, count_total, some_at, sum_total, freeings_at, ways_of, is_of, freed_in_command, freed_below, no_test}
use Rattle.shr_model.proofs.Weights.{serial_itself}
use Rattle.shr_lawful.specs.Charges as did
use Rattle.shr_lawful.proofs.Gathering.{each_among, has_step, total_same_on, made_stands, maker, reply_is}
use Rattle.shr_lawful.proofs.Listed.{all_among, op_of, op_by, ops_are, ops_none, among_has}
use Rattle.shr_lawful.proofs.Recounting.{journals_are}
use Rattle.shr_lawful.proofs.IsolationSteps.{scanned_by, visited_by}
use Rattle.shr_lawful.proofs.ScansLaw.{only_step}
use Rattle.shr_lawful.proofs.RepliesLaw.{told_of}
use Rattle.shr_lawful.proofs.ReplyEntries.{IsEntryFor, entry_asked}
use Rattle.shr_lawful.proofs.FamilyObjects.{AddIs}
use Rattle.shr_lawful.proofs.UnitDeferredLaw.{same_totals}

-- ---- totals
pub total_filter : {A : Type 0} (h : A → ℕ) (p : A → Bool) (xs : List A) → total h (filter p xs) ≡ total (λ x. cond (p x) (h x) 0) xs
total_filter h p [] = refl
total_filter h p (x ∷ xs) = (elim (p x) as (λ (b : Bool). total h (filter p xs) ≡ total (λ y. cond (p y) (h y) 0) xs → total h (cond b (x ∷ filter p xs) (filter p xs)) ≡ cond b (h x) 0 + total (λ y. cond (p y) (h y) 0) xs) [ true ↦ λ e. omega (arith, e) | false ↦ λ e. omega (arith, e) ]) (total_filter h p xs)

pub total_map : {A B : Type 0} (h : B → ℕ) (f : A → B) (xs : List A) → total h (map f xs) ≡ total (λ x. h (f x)) xs
total_map h f [] = refl
total_map h f (x ∷ xs) = omega (arith, total_map h f xs)

-- ---- a list that a test keeps
abbrev head : {A : Type 0} → List A → Option A
head [] = None
head (x ∷ l) = Some x

first_kept : {A : Type 0} (p : A → Bool) (l : List A) → find p l ≡ head (filter p l)
first_kept p [] = refl
first_kept p (x ∷ l) = (elim (p x) as (λ (b : Bool). find p l ≡ head (filter p l) → cond b (Some x) (find p l) ≡ head (cond b (x ∷ filter p l) (filter p l))) [ true ↦ λ e. refl | false ↦ λ e. e ]) (first_kept p l)

find_first : {A : Type 0} (p : A → Bool) (xs ys : List A) → filter p xs ≡ filter p ys → find p xs ≡ find p ys
find_first p xs ys e = first_kept p xs ∙ (ap head e ∙ sym (first_kept p ys))

-- where an element that is kept stands among those that are kept
kept_at : {A : Type 0} (p : A → Bool) (xs : List A) (n : ℕ) (x : A) → slice_get xs n ≡ Some x → p x ≡ true → (m : ℕ) × (slice_get (filter p xs) m ≡ Some x) × (filter p (drop (n + 1) xs) ≡ drop (m + 1) (filter p xs))
kept_at p [] n x e yes_it = absurd (none-some x e)
kept_at p (y ∷ xs) zero x e yes_it = let k : p y ≡ true = ap p (same_Some y x e) ∙ yes_it in
    (0, ap (λ b. slice_get (cond b (y ∷ filter p xs) (filter p xs)) 0) k ∙ e, sym (ap (λ b. drop 1 (cond b (y ∷ filter p xs) (filter p xs))) k))
kept_at p (y ∷ xs) (suc n) x e yes_it = let t = kept_at p xs n x e yes_it in
    let more : filter p (drop (suc n + 1) (y ∷ xs)) ≡ filter p (drop (n + 1) xs) = ap (λ k. filter p (drop k (y ∷ xs))) (let z : suc n + 1 ≡ suc (n + 1) = omega arith in z) in
    elim (cases_Bool (p y)) [
      | inl here ↦ (
        suc t.0,
        ap (λ b. slice_get (cond b (y ∷ filter p xs) (filter p xs)) (suc t.0)) here ∙ t.1,
        more ∙ (t.2 ∙ (ap (λ k. drop k (y ∷ filter p xs)) (let z : suc (t.0 + 1) ≡ suc t.0 + 1 = omega arith in z) ∙ sym (ap (λ b. drop (suc t.0 + 1) (cond b (y ∷ filter p xs) (filter p xs))) here))),
      )
      | inr not_it ↦ (t.0, ap (λ b. slice_get (cond b (y ∷ filter p xs) (filter p xs)) t.0) not_it ∙ t.1, more ∙ (t.2 ∙ sym (ap (λ b. drop (t.0 + 1) (cond b (y ∷ filter p xs) (filter p xs))) not_it)))
    ]

filter_same : {A : Type 0} (p : A → Bool) (xs : List A) → ((x : A) → Has xs x → p x ≡ true) → filter p xs ≡ xs
filter_same p [] h = refl
filter_same p (x ∷ xs) h = ap (λ b. cond b (x ∷ filter p xs) (filter p xs)) (h x (inl refl)) ∙ ap (λ l. x ∷ l) (filter_same p xs (λ y has. h y (inr has)))

drop_has : {A : Type 0} (n : ℕ) (xs : List A) (x : A) → Has (drop n xs) x → Has xs x
drop_has zero xs x h = h
drop_has (suc n) [] x h = h
drop_has (suc n) (y ∷ xs) x h = inr (drop_has n xs x h)

module _ (s : Script) (r : Report) (workers : List (List Step)) (run : IsRun s r workers) where
  -- ---- the step of a command
  record OfStep (by : Serial) : Type 0 where
    step : Step
    there : slice_get (steps_of workers by.worker) by.command ≡ Some step
    own : step.by ≡ by

  step_or_not : (by : Serial) → OfStep by ⊎ ((worker k : ℕ) (x : Step) → slice_get (steps_of workers worker) k ≡ Some x → x.by ≡ by → ⊥)
  step_or_not by = by_cases (slice_get (steps_of workers by.worker) by.command) refl where
    by_cases : (o : Option Step) → slice_get (steps_of workers by.worker) by.command ≡ o → OfStep by ⊎ ((worker k : ℕ) (x : Step) → slice_get (steps_of workers worker) k ≡ Some x → x.by ≡ by → ⊥)
    by_cases (Some x) e = inl (record { step = x; there = e; own = (run.steps.each by.worker by.command x e).by })
    by_cases None e = inr (λ worker k x at same. let b : serial_of worker k ≡ by = sym (run.steps.each worker k x at).by ∙ same in
        none-some x (sym e ∙ (ap (λ (z : Serial). slice_get (steps_of workers z.worker) z.command) (sym b) ∙ at)))

  command_of : (by : Serial) (o : OfStep by) → command_at s by ≡ o.step.command
  command_of by o = (run.steps.each by.worker by.command o.step o.there).command

  no_command : (by : Serial) → ((worker k : ℕ) (x : Step) → slice_get (steps_of workers worker) k ≡ Some x → x.by ≡ by → ⊥) → command_at s by ≡ None
  no_command by never = by_cases (slice_get (steps_of workers by.worker) by.command) refl where
    by_cases : (o : Option Step) → slice_get (steps_of workers by.worker) by.command ≡ o → command_at s by ≡ None
    by_cases (Some x) e = absurd (never by.worker by.command x e (run.steps.each by.worker by.command x e).by)
    by_cases None e = slice_get_past (commands_of s by.worker) by.command (omega (arith, run.steps.commands by.worker, past (steps_of workers by.worker) by.command e)) where
      past : (xs : List Step) (n : ℕ) → slice_get xs n ≡ None → length xs ≤ n
      past [] n h = omega arith
      past (x ∷ xs) zero h = absurd (none-some x (sym h))
      past (x ∷ xs) (suc n) h = omega (arith, past xs n h)

  -- ---- operations
  pub there : AllByRecursion (λ (o : UseStep). o.group < length (parents_of s)) r.uses.items
  there = by_slices (λ (o : UseStep). o.group < length (parents_of s)) r.uses.items (λ j o e. let of = op_of s r workers run o (among_has r.uses.items o (j, some_at r.uses.items j o e)) in
      all_among (λ (z : UseStep). z.group < length (parents_of s)) of.step.work.ops o (run.steps.each of.worker of.k of.step of.at).did.charges.there of.has)

  pub puts : (n : ℕ) (o : UseStep) → slice_get r.uses.items n ≡ Some o → o.up ≡ true → IsSomeAnd (command_at s o.by) (λ c. is_put c ≡ true)
  puts n o e up =
      let of = op_of s r workers run o (among_has r.uses.items o (n, some_at r.uses.items n o e)) in
      let is = run.steps.each of.worker of.k of.step of.at in
      let command : command_at s o.by ≡ of.step.command = ap (command_at s) (op_by s r workers run of.worker of.k of.step o of.at of.has ∙ is.by) ∙ is.command in
      subst (λ (c : Option Command). IsSomeAnd c (λ d. is_put d ≡ true)) (sym command) (all_among (λ (z : UseStep). z.up ≡ true → IsPut of.step.command) of.step.work.ops o is.did.charges.puts of.has up)

  -- a command's operations in a group
  mine_are : (by : Serial) (g : ℕ) (o : OfStep by) → ops_by by (uses_at r g) ≡ ops_at g o.step.work.ops
  mine_are by g o = ap (λ (b : Serial). ops_by b (uses_at r g)) (sym o.own) ∙ ops_are s r workers run by.worker by.command o.step g o.there

  pub fourteen : (by : Serial) (g : ℕ) → ups (ops_by by (uses_at r g)) ≤ 14
  fourteen by g = ⊎_elim (λ o. subst (λ l. ups l ≤ 14) (sym (mine_are by g o)) ((run.steps.each by.worker by.command o.step o.there).did.charges.fourteen g))
      (λ never. subst (λ l. ups l ≤ 14) (sym (ops_none s r workers run by g never)) (omega arith)) (step_or_not by)

  pub between : (by : Serial) (g : ℕ) → IsDownBetween (ways_of r by g)
  between by g = ⊎_elim (λ o. subst (λ l. IsDownBetween (map (λ (z : UseStep). z.up) l)) (sym (mine_are by g o)) ((run.steps.each by.worker by.command o.step o.there).did.charges.between g))
      (λ never. subst (λ l. IsDownBetween (map (λ (z : UseStep). z.up) l)) (sym (ops_none s r workers run by g never)) (λ n m lt a b. absurd (none-some true a))) (step_or_not by)

  pub taken_back : (g : ℕ) → AreTakenBack (limit_of s g) (uses_at r g)
  taken_back g n o e up full =
      let f = filter_has (λ (z : UseStep). eqb z.group g) r.uses.items o (among_has (uses_at r g) o (n, some_at (uses_at r g) n o e)) in
      let of = op_of s r workers run o f.0 in
      let by : o.by ≡ of.step.by = op_by s r workers run of.worker of.k of.step o of.at of.has in
      let kept = kept_at (is_by of.step.by) (uses_at r g) n o e (own_by o of.step.by by) in
      let ours : filter (is_by of.step.by) (uses_at r g) ≡ ops_at g of.step.work.ops = ops_are s r workers run of.worker of.k of.step g of.at in
      let down : IsDownNext o.by (drop (kept.0 + 1) (ops_at g of.step.work.ops)) = (run.steps.each of.worker of.k of.step of.at).did.charges.taken_back g kept.0 o (ap (λ l. slice_get l kept.0) (sym ours) ∙ kept.1) up full in
      let all_own : (z : UseStep) → Has (drop (kept.0 + 1) (ops_at g of.step.work.ops)) z → is_by of.step.by z ≡ true = λ z has. (filter_has (is_by of.step.by) (uses_at r g) z (subst (λ l. Has l z) (sym ours) (drop_has (kept.0 + 1) (ops_at g of.step.work.ops) z has))).1 in
      let same : filter (is_by of.step.by) (drop (n + 1) (uses_at r g)) ≡ filter (is_by of.step.by) (drop (kept.0 + 1) (ops_at g of.step.work.ops)) =
      kept.2 ∙ (ap (drop (kept.0 + 1)) ours ∙ sym (filter_same (is_by of.step.by) (drop (kept.0 + 1) (ops_at g of.step.work.ops)) all_own)) in
      let finds : find (is_by of.step.by) (drop (n + 1) (uses_at r g)) ≡ find (is_by of.step.by) (drop (kept.0 + 1) (ops_at g of.step.work.ops)) = find_first (is_by of.step.by) (drop (n + 1) (uses_at r g)) (drop (kept.0 + 1) (ops_at g of.step.work.ops)) same in
      subst (λ (b : Serial). IsDownNext b (drop (n + 1) (uses_at r g))) (sym by) (subst (λ f. MatchOption f ⊥ (λ (z : UseStep). z.up ≡ false)) (sym finds) (subst (λ (b : Serial). IsDownNext b (drop (kept.0 + 1) (ops_at g of.step.work.ops))) by down)) where
        own_by : (o : UseStep) (b : Serial) → o.by ≡ b → is_by b o ≡ true
        own_by o b e = and_from (eqb o.by.worker b.worker) (eqb o.by.command b.command) (eq-eqb o.by.worker b.worker (ap (λ (z : Serial). z.worker) e)) (eq-eqb o.by.command b.command (ap (λ (z : Serial). z.command) e))

  -- ---- what a command's entries freed
  pub born_total : (g : ℕ) (objects : List Object) → born_below (parents_of s) g objects ≡ total (λ (o : Object). cond (is_at_or_above (parents_of s) g o.birth) 1 0) objects
  born_total g objects = count_total (λ (o : Object). is_at_or_above (parents_of s) g o.birth) objects

  -- an entry that a step made is of its command, or freed nothing
  entry_own : (worker k : ℕ) (x : Step) (m : Made) (e : Entry) → slice_get (steps_of workers worker) k ≡ Some x → IsAmong m x.work.core.made → m.entry ≡ e → MayMakeEntry s x m e → (entry_by r e ≡ Some x.by) ⊎ (freed_by m.items e ≡ [])
  entry_own worker k x m (Drop by birth key kind) at among entry may = let t : IsTenantEntry x m by = may in inl (ap Some t.own)
  entry_own worker k x m (Scan w n asked policy visits freed stopped) at among entry may =
      inl (⊎_elim (λ t. scanned_by s r workers run worker k x m w n at t) (λ t. visited_by s r workers run worker k x m w n asked visits freed policy stopped at t among entry) may)
  entry_own worker k x m (Drained by objects) at among entry may = let t : IsDrainedByCommand x m by = may in inl (ap Some t.own)
  entry_own worker k x m e at among entry may = inr refl

  may_make : (worker k : ℕ) (x : Step) (j : ℕ) (m : Made) → slice_get (steps_of workers worker) k ≡ Some x → slice_get x.work.core.made j ≡ Some m → MayMakeEntry s x m m.entry
  may_make worker k x j m at e = each_among (λ (z : Made). MayMakeEntry s x z z.entry) x.work.core.made m (run.steps.each worker k x at).did.entries.each (j, some_at x.work.core.made j m e)

  abbrev weight_by : Serial → ℕ → Made → ℕ
  weight_by by g m = cond (is_of by (entry_by r m.entry)) (born_below (parents_of s) g (freed_by m.items m.entry)) 0

  -- the report's sum is that over what was made
  freed_made : (by : Serial) (g : ℕ) → freed_below s r by g ≡ total (weight_by by g) (all_made workers)
  freed_made by g = sum_total (λ (p : Place). sum_by (freed_in_command r (parents_of s) by g) (freeings_at (parents_of s) (journals_of r) p)) (places_of r)
      ∙ (total_same_on (λ (p : Place). sum_by (freed_in_command r (parents_of s) by g) (freeings_at (parents_of s) (journals_of r) p))
      (λ (p : Place). total (λ (e : ℕ × Entry). cond (is_of by (entry_by r e.1)) (born_below (parents_of s) g (freed_by (items_at (parents_of s) (journals_of r) p e.0) e.1)) 0) (enumerate_from 0 (journals_of r p))) (places_of r)
      (λ p. sum_total (freed_in_command r (parents_of s) by g) (freeings_at (parents_of s) (journals_of r) p)
      ∙ total_map (freed_in_command r (parents_of s) by g) (λ (e : ℕ × Entry). record { entry = e.1; objects = freed_by (items_at (parents_of s) (journals_of r) p e.0) e.1 }) (enumerate_from 0 (journals_of r p)))
      ∙ journals_are s r workers run (weight_by by g) (λ p n e. cond (is_of by (entry_by r e)) (born_below (parents_of s) g (freed_by (items_at (parents_of s) (journals_of r) p n) e)) 0)
      (λ m p place stands items. ap (λ (l : List Object). cond (is_of by (entry_by r m.entry)) (born_below (parents_of s) g (freed_by l m.entry)) 0) items))

  serial_other : (a b : Serial) → (a ≡ b → ⊥) → is_serial a b ≡ false
  serial_other a b ne = no_test (is_serial a b) (λ h. let t = and_parts (eqb a.worker b.worker) (eqb a.command b.command) h in let w = eqb-true a.worker b.worker t.0 in let c = eqb-true a.command b.command t.1 in ne (λ i. record { worker = w i; command = c i }))

  born_none : (g : ℕ) (l : List Object) → l ≡ [] → born_below (parents_of s) g l ≡ 0
  born_none g l e = ap (born_below (parents_of s) g) e

  cond_zero : (b : Bool) (n : ℕ) → n ≡ 0 → cond b n 0 ≡ 0
  cond_zero true n e = e
  cond_zero false n e = refl

  -- of another command nothing counts
  other_weighs : (by : Serial) (g worker k : ℕ) (x : Step) → slice_get (steps_of workers worker) k ≡ Some x → (x.by ≡ by → ⊥) → total (weight_by by g) x.work.core.made ≡ 0
  other_weighs by g worker k x at ne = all_zero (weight_by by g) x.work.core.made (λ j m e. ⊎_elim
      (λ own. ap (λ o. cond (is_of by o) (born_below (parents_of s) g (freed_by m.items m.entry)) 0) own ∙ ap (λ b. cond b (born_below (parents_of s) g (freed_by m.items m.entry)) 0) (serial_other by x.by (λ same. ne (sym same))))
      (λ none. cond_zero (is_of by (entry_by r m.entry)) (born_below (parents_of s) g (freed_by m.items m.entry)) (born_none g (freed_by m.items m.entry) none))
      (entry_own worker k x m m.entry at (j, some_at x.work.core.made j m e) refl (may_make worker k x j m at e)))

  -- of the command itself all does
  own_weighs : (g worker k : ℕ) (x : Step) → slice_get (steps_of workers worker) k ≡ Some x → total (weight_by x.by g) x.work.core.made ≡ sum_by (did.made_freed_below (parents_of s) g) x.work.core.made
  own_weighs g worker k x at = same_totals (weight_by x.by g) (did.made_freed_below (parents_of s) g) x.work.core.made (λ j m e. ⊎_elim
      (λ own. ap (λ o. cond (is_of x.by o) (born_below (parents_of s) g (freed_by m.items m.entry)) 0) own ∙ ap (λ b. cond b (born_below (parents_of s) g (freed_by m.items m.entry)) 0) (serial_itself x.by))
      (λ none. cond_zero (is_of x.by (entry_by r m.entry)) (born_below (parents_of s) g (freed_by m.items m.entry)) (born_none g (freed_by m.items m.entry) none) ∙ sym (born_none g (freed_by m.items m.entry) none))
      (entry_own worker k x m m.entry at (j, some_at x.work.core.made j m e) refl (may_make worker k x j m at e)))
      ∙ sym (sum_total (did.made_freed_below (parents_of s) g) x.work.core.made)

  pub nets : (by : Serial) (g : ℕ) → g < length (parents_of s) → usage_after (ops_by by (uses_at r g)) ≡ pos (charged (parents_of s) g (command_at s by) (reply_at r by)) -ℤ pos (freed_below s r by g)
  nets by g lt = ⊎_elim
      (λ o. let is = run.steps.each by.worker by.command o.step o.there in
      let freed : freed_below s r by g ≡ sum_by (did.made_freed_below (parents_of s) g) o.step.work.core.made =
      freed_made by g ∙ (only_step (weight_by by g) (λ (y : Step). y.work.core.made) workers by.worker by.command o.step o.there
      (λ v j y at apart. other_weighs by g v j y at (λ same. let b : serial_of v j ≡ by = sym (run.steps.each v j y at).by ∙ same in apart (ap (λ (z : Serial). z.worker) b, ap (λ (z : Serial). z.command) b)))
      ∙ (ap (λ (b : Serial). total (weight_by b g) o.step.work.core.made) (sym o.own) ∙ own_weighs g by.worker by.command o.step o.there)) in
      ap usage_after (mine_are by g o) ∙ (is.did.charges.nets g lt
      ∙ (ap (λ c. pos (charged (parents_of s) g c (Some o.step.answered.reply)) -ℤ pos (sum_by (did.made_freed_below (parents_of s) g) o.step.work.core.made)) (sym (command_of by o))
      ∙ (ap (λ x. pos (charged (parents_of s) g (command_at s by) x) -ℤ pos (sum_by (did.made_freed_below (parents_of s) g) o.step.work.core.made)) (sym (reply_is s r workers run by.worker by.command o.step o.there))
      ∙ ap (λ n. pos (charged (parents_of s) g (command_at s by) (reply_at r by)) -ℤ pos n) (sym freed)))))
      (λ never. let freed : freed_below s r by g ≡ 0 = freed_made by g ∙ none_weigh by g never in
      ap usage_after (ops_none s r workers run by g never) ∙ (ap (λ c. pos (charged (parents_of s) g c (reply_at r by)) -ℤ pos 0) (sym (no_command by never)) ∙ ap (λ n. pos (charged (parents_of s) g (command_at s by) (reply_at r by)) -ℤ pos n) (sym freed)))
      (step_or_not by) where
        none_weigh : (by : Serial) (g : ℕ) → ((worker k : ℕ) (x : Step) → slice_get (steps_of workers worker) k ≡ Some x → x.by ≡ by → ⊥) → total (weight_by by g) (all_made workers) ≡ 0
        none_weigh by g never = all_zero (weight_by by g) (all_made workers) (λ j m e. let of = has_step (λ (x : Step). x.work.core.made) workers m (j, some_at (all_made workers) j m e) in
            ⊎_elim
            (λ own. ap (λ o. cond (is_of by o) (born_below (parents_of s) g (freed_by m.items m.entry)) 0) own ∙ ap (λ b. cond b (born_below (parents_of s) g (freed_by m.items m.entry)) 0) (serial_other by of.step.by (λ same. never of.worker of.k of.step of.at (sym same))))
            (λ none. cond_zero (is_of by (entry_by r m.entry)) (born_below (parents_of s) g (freed_by m.items m.entry)) (born_none g (freed_by m.items m.entry) none))
            (entry_own of.worker of.k of.step m m.entry of.at of.has refl (may_make of.worker of.k of.step of.has.0 m of.at (at_some of.step.work.core.made of.has.0 m of.has.1))))

  -- ---- what is left
  -- the weight of a serial: that of the group of its `put`
  abbrev pub weight_command : ℕ → Option Command → ℕ
  weight_command g None = 0
  weight_command g (Some (Put to key value)) = cond (is_at_or_above (parents_of s) g to.group) 1 0
  weight_command g (Some c) = 0

  abbrev pub weight_serial : ℕ → Serial → ℕ
  weight_serial g by = weight_command g (command_at s by)

  abbrev pub weight_object : ℕ → Object → ℕ
  weight_object g o = cond (is_at_or_above (parents_of s) g o.birth) 1 0

  put_weighs : (g : ℕ) (by b : Serial) (c : Command) (birth : ℕ) (key value : List ℕ) (added : Bool) → IsEntryFor by c (Add b birth added key value) → weight_command g (Some c) ≡ cond (is_at_or_above (parents_of s) g birth) 1 0
  put_weighs g by b (Put to k v) birth key value added h = let e : Add b birth added key value ≡ Add by to.group h.0 k v = h.1 in let same : birth ≡ to.group = cc in ap (λ z. cond (is_at_or_above (parents_of s) g z) 1 0) (sym same)
  put_weighs g by b (On to k Get) birth key value added h = absurd (let e = h.1 in cc)
  put_weighs g by b (On to k Del) birth key value added h = absurd (let e = h.1 in cc)
  put_weighs g by b (On to k (SetPin pinned)) birth key value added h = absurd (let e = h.1 in cc)
  put_weighs g by b c birth key value added h = absurd h

  -- the birth of an Add's object is the group of its `put`
  pub add_weighs : (g : ℕ) (p : Place) (n : ℕ) (by : Serial) (birth : ℕ) (key value : List ℕ) (added : Bool) → slice_get (journals_of r p) n ≡ Some (Add by birth added key value) → weight_serial g by ≡ cond (is_at_or_above (parents_of s) g birth) 1 0
  add_weighs g p n by birth key value added stands =
      let m = maker s r workers run p n (Add by birth added key value) stands in
      let is = run.steps.each m.worker m.k m.step m.at in
      let told = told_of s m.step m.made m.made.entry by (ap by_of m.entry) (each_among (λ (z : Made). MayMakeEntry s m.step z z.entry) m.step.work.core.made m.made is.did.entries.each m.among) in
      let stand = made_stands s r workers run m.worker m.k m.step m.at in
      let answer = is.did.entries.reply (journals_of r) (λ j z e. (stand j z e).1) in
      let here = (stand m.among.0 m.made m.among.1).1.entry ∙ ap Some m.entry in
      let entry = entry_asked (parents_of s) (journals_of r) m.step.by m.step.answered.reply m.step.command (id_found m.step.answered) (at (place_at m.made.place) m.made.number) (Add by birth added key value) answer told.cited here in
      ap (weight_command g) (ap (command_at s) (told.own ∙ is.by) ∙ (is.command ∙ entry.1)) ∙ put_weighs g m.step.by by entry.0 birth key value added entry.2

  abbrev pub Weighs : ℕ → Object → Type 0
  Weighs g o = weight_serial g o.serial ≡ weight_object g o

  pub added_weigh : (g : ℕ) (p : Place) → AllByRecursion (AddIs (Weighs g) (λ o h. h) (λ o h. h) (λ pinned o h. h)) (journals_of r p)
  added_weigh g p = by_slices (AddIs (Weighs g) (λ o h. h) (λ o h. h) (λ pinned o h. h)) (journals_of r p) (λ n e stands. by_entry n e stands) where
    by_entry : (n : ℕ) (e : Entry) → slice_get (journals_of r p) n ≡ Some e → AddIs (Weighs g) (λ o h. h) (λ o h. h) (λ pinned o h. h) e
    by_entry n (Add by birth added key value) stands = add_weighs g p n by birth key value added stands
    by_entry n e stands = tt
