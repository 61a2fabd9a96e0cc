-- SPDX-License-Identifier: GPL-2.0-only
-- The deferred words of pools, of a run.
use Rattle.shr_lawful.proofs.UnitsCommon.{◌≡◌, ℕ, zero, suc, ◌+◌, ◌<◌, ◌≤◌, ◌≢◌, ◌⊎◌, ⊎_elim, List, [], ◌∷◌, ◌++◌, length, flat_map, sym, refl, ap, subst, ◌∙◌, arith, slice_get, Option, Some, None, filter_map, sum_by, option_and_then, append-nil, sum_by-append, none-some, Place, Script, PassRecord, PlainTry, PlainWalk, sum_at, amount_at, IsPlaceOf, total, Begins, total-append, Moves, no_moves, both, takes_of, gives_of, takes_both, gives_both, PlainState, no_state, Report, cons_option, PlainJob, pass_in, pass_at, try_at, settings_of, pool_sizes, home_of, DidPoolWalk, UnitsStep, units_steps_in, units_steps_of, last_units_state, AreUnits, deferred_word, plain_in, all_plain, pool_passes, pool_printed_at}
use Rattle.shr_base.specs.declared.ends.PlaceAmount.{PlaceAmount}
use Rattle.shr_base.specs.declared.ends.WorkerPart.{WorkerPart}
use Rattle.shr_lawful.proofs.UnitStepKinds.{Kind, released, grabbed, walked, idle}
use Rattle.shr_lawful.proofs.UnitLists.{IsIn, flat_in, sum_total, total_flat}
use Rattle.shr_lawful.proofs.UnitPooling.{home_there, there_or_not}
use Rattle.shr_lawful.proofs.UnitAlong.{gained, gained_is, Longer, all_gained}
use Rattle.shr_lawful.proofs.UnitRooms.{release_still, grab_still}
use Rattle.shr_lawful.proofs.UnitTries as tries
use Rattle.shr_lawful.proofs.UnitTries.{weight}
use Rattle.shr_lawful.proofs.UnitWalking.{across, inside, walks_are, try_here, try_there}
use Rattle.shr_lawful.proofs.UnitMaking.{walks_at, kind_at, longer_walks}
use Rattle.shr_lawful.proofs.UnitReclaims.{weight_of, total_kept}
use Rattle.shr_lawful.proofs.UnitWalkRecords.{none_gained, WalkOf, walk_of}

-- what a state moved
abbrev moves_at : PlainState → Moves
moves_at t = t.moves

-- the walks of all parts weigh what those of all workers' last states do
same_walks : (f : PlainWalk → ℕ) (parts : List WorkerPart) (workers : List (List UnitsStep)) → ((i : ℕ) → plain_in (slice_get parts i) ≡ (last_units_state (units_steps_in (slice_get workers i))).walks)
    → total f (flat_map (λ (part : WorkerPart). part.plain.items) parts) ≡ total (λ (mine : List UnitsStep). total f (last_units_state mine).walks) workers
same_walks f [] [] h = refl
same_walks f (p ∷ ps) [] h = omega (arith, total-append f p.plain.items (flat_map (λ (part : WorkerPart). part.plain.items) ps), ap (total f) (h 0), same_walks f ps [] (λ i. h (suc i)))
same_walks f [] (m ∷ ms) h = omega (arith, ap (total f) (h 0), same_walks f [] ms (λ i. h (suc i)))
same_walks f (p ∷ ps) (m ∷ ms) h = omega (arith, total-append f p.plain.items (flat_map (λ (part : WorkerPart). part.plain.items) ps), ap (total f) (h 0), same_walks f ps ms (λ i. h (suc i)))

-- a sum of moves at a place: of the gives, or of the takes
record IsSum (sum : Moves → ℕ) : Type 0 where
  pub none : sum no_moves ≡ 0
  pub more : (m k : Moves) → sum (both m k) ≡ sum m + sum k

sum_flat : (sum : Moves → ℕ) → IsSum sum → (f : UnitsStep → Moves) (xs : List UnitsStep) → sum (flat_map f xs) ≡ total (λ x. sum (f x)) xs
sum_flat sum is f [] = is.none
sum_flat sum is f (x ∷ xs) = omega (arith, is.more (f x) (flat_map f xs), sum_flat sum is f xs)

pub same_totals : {A : Type 0} (g h : A → ℕ) (xs : List A) → ((j : ℕ) (x : A) → slice_get xs j ≡ Some x → g x ≡ h x) → total g xs ≡ total h xs
same_totals g h [] e = refl
same_totals g h (x ∷ xs) e = omega (arith, e 0 x refl, same_totals g h xs (λ j y d. e (suc j) y d))

-- what a step moved at a place is what the passes of its walk there tell
abbrev Tells : Script → Place → (Moves → ℕ) → (PassRecord → ℕ) → UnitsStep → Type 0
Tells s p sum f x = sum (gained moves_at x) ≡ total (λ (w : PlainWalk). weight f (pass_at s p w)) (gained walks_at x)

still : (s : Script) (p : Place) (sum : Moves → ℕ) → IsSum sum → (f : PassRecord → ℕ) (x : UnitsStep) → (x.after.walks ≡ x.before.walks) × (x.after.moves ≡ x.before.moves) → Tells s p sum f x
still s p sum is f x h = ap sum (gained_is moves_at x [] (h.1 ∙ sym (append-nil x.before.moves))) ∙ (is.none ∙ sym (ap (total (λ (w : PlainWalk). weight f (pass_at s p w))) (none_gained x h.0)))

-- the two sums over the tries of a walk
record IsOfTries (s : Script) (p : Place) (sum : Moves → ℕ) (f : PassRecord → ℕ) (x : UnitsStep) (node priority : ℕ) (xs : List PlainTry) (moved : Moves) : Type 0 where
  pub none : ((j : ℕ) → j < length xs → p ≡ home_of s (0 + j) node → ⊥) → sum moved ≡ 0
  pub one : (k : ℕ) (y : PlainTry) → slice_get xs k ≡ Some y → p ≡ home_of s (0 + k) node → sum moved ≡ weight f (pass_in y)

module _ (s : Script) (p : Place) (sum : Moves → ℕ) (f : PassRecord → ℕ) (x : UnitsStep) (job : PlainJob) (did : DidPoolWalk s x.by job x.before x.after) where
  abbrev moved : Moves
  moved = tries.moved (settings_of s) (pool_sizes s) x.by (length x.before.walks) job.node job.priority (across s x.by job x.before x.after did) 0 did.gives.walk.tries.items

  gained_moves : gained moves_at x ≡ moved
  gained_moves = gained_is moves_at x moved (ap moves_at did.gives.state ∙ tries.moves_are (settings_of s) (pool_sizes s) x.by (length x.before.walks) job.node job.priority (across s x.by job x.before x.after did) 0 did.gives.walk.tries.items x.before did.gives.tried did.gives.tries)

  gained_walk : gained walks_at x ≡ did.gives.walk ∷ []
  gained_walk = gained_is walks_at x (did.gives.walk ∷ []) (walks_are s x.by job x.before x.after did)

  walk_tells : IsOfTries s p sum f x job.node job.priority did.gives.walk.tries.items moved → Tells s p sum f x
  walk_tells of = ap sum gained_moves ∙ (by_try (try_at s p did.gives.walk) refl ∙ sym (ap (total (λ (w : PlainWalk). weight f (pass_at s p w))) gained_walk ∙ one (weight f (pass_at s p did.gives.walk))))
    where
      one : (n : ℕ) → n + 0 ≡ n
      one n = omega arith

      by_try : (o : Option PlainTry) → try_at s p did.gives.walk ≡ o → sum moved ≡ weight f (pass_at s p did.gives.walk)
      by_try None e = of.none never ∙ sym (ap (λ (o : Option PlainTry). weight f (option_and_then pass_in o)) e)
        where
          never : (j : ℕ) → j < length did.gives.walk.tries.items → p ≡ home_of s (0 + j) job.node → ⊥
          never j lt same = found (slice_get did.gives.walk.tries.items j) refl where
            found : (o : Option PlainTry) → slice_get did.gives.walk.tries.items j ≡ o → ⊥
            found None d = past did.gives.walk.tries.items j lt d where
              past : (ys : List PlainTry) (k : ℕ) → k < length ys → slice_get ys k ≡ None → ⊥
              past [] k low at = omega (arith, low)
              past (y ∷ ys) zero low at = none-some y (sym at)
              past (y ∷ ys) (suc k) low at = past ys k (omega (arith, low)) at
            found (Some y) d = none-some y (sym e ∙ (ap (λ (q : Place). try_at s q did.gives.walk) (same ∙ ap (λ (k : ℕ). home_of s k job.node) (let m : 0 + j ≡ j = omega arith in m)) ∙ try_here s x.by job x.before x.after did j (Some y) d))
      by_try (Some y) e = let h = try_there s x.by job x.before x.after did p y e in
          of.one p.id y h.1 (h.0 ∙ ap (λ (k : ℕ). home_of s k job.node) (let m : p.id ≡ 0 + p.id = omega arith in m)) ∙ sym (ap (λ (o : Option PlainTry). weight f (option_and_then pass_in o)) e)

given : Place → Moves → ℕ
given p m = sum_at p (gives_of m)

taken : Place → Moves → ℕ
taken p m = sum_at p (takes_of m)

given_sum : (p : Place) → IsSum (given p)
unfolding given
given_sum p = record { none = refl; more = λ m k. ap (sum_at p) (gives_both m k) ∙ sum_by-append (amount_at p) (gives_of m) (gives_of k) }

taken_sum : (p : Place) → IsSum (taken p)
unfolding taken
taken_sum p = record { none = refl; more = λ m k. ap (sum_at p) (takes_both m k) ∙ sum_by-append (amount_at p) (takes_of m) (takes_of k) }

next_in : PassRecord → ℕ
next_in q = q.next

nr_in : PassRecord → ℕ
nr_in q = q.nr

given_tells : (s : Script) (p : Place) (x : UnitsStep) → Kind s x.by x.command x.reply x.before x.after → Tells s p (given p) next_in x
unfolding given next_in
given_tells s p x (released node pool n is due did) = still s p (given p) (given_sum p) next_in x (release_still s x.by x.reply x.before x.after node pool n did)
given_tells s p x (grabbed node pool is due did) = still s p (given p) (given_sum p) next_in x (grab_still s x.by x.reply x.before x.after node pool did)
given_tells s p x (walked job due is did) = walk_tells s p (given p) next_in x job did (record {
  none = λ h. tries.given_none (settings_of s) (pool_sizes s) x.by (length x.before.walks) job.node job.priority (across s x.by job x.before x.after did) p 0 did.gives.walk.tries.items h;
  one = λ k y at e. tries.given_at (settings_of s) (pool_sizes s) x.by (length x.before.walks) job.node job.priority (across s x.by job x.before x.after did) p 0 did.gives.walk.tries.items k y at e;
})
given_tells s p x (idle due is same) = still s p (given p) (given_sum p) next_in x (ap walks_at same, ap moves_at same)

taken_tells : (s : Script) (p : Place) (x : UnitsStep) → Kind s x.by x.command x.reply x.before x.after → Tells s p (taken p) nr_in x
unfolding taken nr_in
taken_tells s p x (released node pool n is due did) = still s p (taken p) (taken_sum p) nr_in x (release_still s x.by x.reply x.before x.after node pool n did)
taken_tells s p x (grabbed node pool is due did) = still s p (taken p) (taken_sum p) nr_in x (grab_still s x.by x.reply x.before x.after node pool did)
taken_tells s p x (walked job due is did) = walk_tells s p (taken p) nr_in x job did (record {
  none = λ h. tries.taken_none (settings_of s) (pool_sizes s) x.by (length x.before.walks) job.node job.priority (across s x.by job x.before x.after did) p 0 did.gives.walk.tries.items h;
  one = λ k y at e. tries.taken_at (settings_of s) (pool_sizes s) x.by (length x.before.walks) job.node job.priority (across s x.by job x.before x.after did) p 0 did.gives.walk.tries.items k y at e;
})
taken_tells s p x (idle due is same) = still s p (taken p) (taken_sum p) nr_in x (ap walks_at same, ap moves_at same)

module _ (s : Script) (r : Report) (workers : List (List UnitsStep)) (run : AreUnits s r workers) where
  -- the moves grow
  longer_moves : (worker : ℕ) → Longer moves_at (units_steps_of workers worker)
  longer_moves worker k x at = by_kind (kind_at s r workers run worker k x at) where
    same : x.after.moves ≡ x.before.moves → Begins x.before.moves x.after.moves
    same e = ([], e ∙ sym (append-nil x.before.moves))

    by_kind : Kind s x.by x.command x.reply x.before x.after → Begins x.before.moves x.after.moves
    by_kind (released node pool n is due did) = same (release_still s x.by x.reply x.before x.after node pool n did).1
    by_kind (grabbed node pool is due did) = same (grab_still s x.by x.reply x.before x.after node pool did).1
    by_kind (walked job due is did) = (
      moved s (record { id = 0; node = 0; group = 0 }) (λ m. 0) (λ q. 0) x job did,
      ap moves_at did.gives.state ∙ tries.moves_are (settings_of s) (pool_sizes s) x.by (length x.before.walks) job.node job.priority (across s x.by job x.before x.after did) 0 did.gives.walk.tries.items x.before did.gives.tried did.gives.tries,
    )
    by_kind (idle due is e) = same (ap moves_at e)

  module _ (p : Place) (sum : Moves → ℕ) (is : IsSum sum) (f : PassRecord → ℕ) (tells : (x : UnitsStep) → Kind s x.by x.command x.reply x.before x.after → Tells s p sum f x) where
    mine : (worker : ℕ) → sum (last_units_state (units_steps_of workers worker)).moves ≡ total (λ (w : PlainWalk). weight f (pass_at s p w)) (last_units_state (units_steps_of workers worker)).walks
    mine worker = ap sum (all_gained moves_at no_state (units_steps_of workers worker) (run.chained worker) (longer_moves worker))
        ∙ (sum_flat sum is (gained moves_at) (units_steps_of workers worker)
        ∙ (same_totals (λ (x : UnitsStep). sum (gained moves_at x)) (λ (x : UnitsStep). total (λ (w : PlainWalk). weight f (pass_at s p w)) (gained walks_at x)) (units_steps_of workers worker) (λ k x e. tells x (kind_at s r workers run worker k x e))
        ∙ (sym (total_flat (λ (w : PlainWalk). weight f (pass_at s p w)) (gained walks_at) (units_steps_of workers worker))
        ∙ sym (ap (total (λ (w : PlainWalk). weight f (pass_at s p w))) (all_gained walks_at no_state (units_steps_of workers worker) (run.chained worker) (longer_walks s r workers run worker))))))

    -- a sum over the passes that are printed
    passes : total (λ (mine : List UnitsStep). sum (last_units_state mine).moves) workers ≡ sum_by f (pool_passes s r p)
    passes = same_totals (λ (mine : List UnitsStep). sum (last_units_state mine).moves) (λ (mine : List UnitsStep). total (λ (w : PlainWalk). weight f (pass_at s p w)) (last_units_state mine).walks) workers
        (λ j m e. let own : units_steps_of workers j ≡ m = ap units_steps_in e in subst (λ (l : List UnitsStep). sum (last_units_state l).moves ≡ total (λ (w : PlainWalk). weight f (pass_at s p w)) (last_units_state l).walks) own (mine j))
        ∙ (sym (same_walks (λ (w : PlainWalk). weight f (pass_at s p w)) r.workers.items workers run.walks)
        ∙ (same_weights (all_plain r) ∙ (sym (total_kept f (pass_at s p) (all_plain r)) ∙ sym (sum_total f (pool_passes s r p)))))
      where
        same_weights : (ws : List PlainWalk) → total (λ (w : PlainWalk). weight f (pass_at s p w)) ws ≡ total (λ (w : PlainWalk). weight_of f (pass_at s p w)) ws
        same_weights [] = refl
        same_weights (w ∷ ws) = omega (arith, same_weights ws, one (pass_at s p w)) where
          one : (o : Option PassRecord) → weight f o ≡ weight_of f o
          one None = refl
          one (Some q) = refl

  sum_workers : (g : List UnitsStep → List PlaceAmount) (p : Place) (ws : List (List UnitsStep)) → sum_at p (flat_map g ws) ≡ total (λ (mine : List UnitsStep). sum_at p (g mine)) ws
  sum_workers g p [] = refl
  sum_workers g p (m ∷ ws) = omega (arith, sum_by-append (amount_at p) (g m) (flat_map g ws), sum_workers g p ws)

  given_is : (p : Place) → sum_at p (flat_map (λ (mine : List UnitsStep). gives_of (last_units_state mine).moves) workers) ≡ sum_by (λ (q : PassRecord). q.next) (pool_passes s r p)
  unfolding given next_in
  given_is p = sum_workers (λ (mine : List UnitsStep). gives_of (last_units_state mine).moves) p workers ∙ passes p (given p) (given_sum p) next_in (given_tells s p)

  taken_is : (p : Place) → sum_at p (flat_map (λ (mine : List UnitsStep). takes_of (last_units_state mine).moves) workers) ≡ sum_by (λ (q : PassRecord). q.nr) (pool_passes s r p)
  unfolding taken nr_in
  taken_is p = sum_workers (λ (mine : List UnitsStep). takes_of (last_units_state mine).moves) p workers ∙ passes p (taken p) (taken_sum p) nr_in (taken_tells s p)

  -- no pass is at a place that the tables haven't
  no_passes : (p : Place) → (IsPlaceOf (pool_sizes s) p → ⊥) → pool_passes s r p ≡ []
  no_passes p out = none_kept (all_plain r) (λ w e. no_pass w e)
    where
      none_kept : (ws : List PlainWalk) → ((w : PlainWalk) → IsIn w ws → pass_at s p w ≡ None) → filter_map (pass_at s p) ws ≡ []
      none_kept [] h = refl
      none_kept (w ∷ ws) h = ap (λ (o : Option PassRecord). cons_option o (filter_map (pass_at s p) ws)) (h w (0, refl)) ∙ none_kept ws (λ v is. h v (suc is.0, is.1))

      no_pass : (w : PlainWalk) → IsIn w (all_plain r) → pass_at s p w ≡ None
      no_pass w is =
          let t = flat_in (λ (part : WorkerPart). part.plain.items) r.workers.items w is in
          let at : slice_get (plain_in (slice_get r.workers.items t.1.0)) t.2.0 ≡ Some w = ap (λ (o : Option WorkerPart). slice_get (plain_in o) t.2.0) t.1.1 ∙ t.2.1 in
          let of : WalkOf s r workers run t.1.0 t.2.0 w = walk_of s r workers run t.1.0 t.2.0 w at in
          subst (λ (v : PlainWalk). pass_at s p v ≡ None) of.own (by_try of (try_at s p of.did.gives.walk) refl)
        where
          by_try : {worker n : ℕ} → (of : WalkOf s r workers run worker n w) → (o : Option PlainTry) → try_at s p of.did.gives.walk ≡ o → pass_at s p of.did.gives.walk ≡ None
          by_try of None e = ap (option_and_then pass_in) e
          by_try of (Some y) e = let h = try_there s of.step.by of.job of.step.before of.step.after of.did p y e in
              absurd (out (subst (IsPlaceOf (pool_sizes s)) (sym h.0) (home_there s p.id of.job.node (inside s of.step.by of.job of.step.before of.step.after of.did p.id y h.1))))

  pub words : (place : Place) → pool_printed_at r place ≡ deferred_word (sum_by (λ (q : PassRecord). q.next) (pool_passes s r place)) (sum_by (λ (q : PassRecord). q.nr) (pool_passes s r place))
  words p = ⊎_elim
      (λ there. run.words p there ∙ (ap (λ (n : ℕ). deferred_word n (sum_at p (flat_map (λ (mine : List UnitsStep). takes_of (last_units_state mine).moves) workers))) (given_is p) ∙ ap (deferred_word (sum_by (λ (q : PassRecord). q.next) (pool_passes s r p))) (taken_is p)))
      (λ out. run.elsewhere p out ∙ sym (ap (λ (l : List PassRecord). deferred_word (sum_by (λ (q : PassRecord). q.next) l) (sum_by (λ (q : PassRecord). q.nr) l)) (no_passes p out)))
      (there_or_not (pool_sizes s) p)
