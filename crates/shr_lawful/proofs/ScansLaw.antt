-- SPDX-License-Identifier: GPL-2.0-only
-- The Scan entries of a walk in the journal of a place are those that its step made there.
use Rattle.shr_lawful.proofs.Common.{◌≡◌, ℕ, zero, suc, ◌+◌, ◌-◌, ◌<◌, ◌≤◌, ◌⊎◌, inl, inr, ⊎_elim, Bool, true, false, ◌&&◌, cond, List, [], ◌∷◌, length, length-append, map, sym, refl, ap, subst, ◌∙◌, arith, eq-eqb, slice_get, Option, Some, None, filter_map, ◌==◌, AllByRecursion, enumerate_from, cons_option, and_parts, eqb-true, cases_lt, same_Some, none-some, slice_get_within, dite, ℕ_discrete, Place, Serial, Entry, Scan, CacheDecl, Script, PassRecord, WalkRecord, place_number, due, ask_size, batch_of, total_of, ScanMade, scan_by, Has, each_has, first_isolation, total, Made, back, Report, journals_of, IsThere, AreScansOf, Step, IsAmong, gathered, steps_of, MayMakeEntry, IsScanned, scan_made, scans_made, IsRun, all_zero, at_some, some_at, sum_total, scans_by, length_total, only_at, enumerated, take_alike}
use Rattle.shr_lawful.proofs.Gathering.{each_among, total_gathered, mine_at, mine_is, same_step, grows, maker, work_of}
use Rattle.shr_lawful.proofs.Recounting.{at_place, journal_is}
use Rattle.shr_lawful.proofs.Listed.{WalkOf}

-- ---- a share that only one step has

pub only_step : {A : Type 0} (g : A → ℕ) (f : Step → List A) (workers : List (List Step)) (worker k : ℕ) (x : Step) → slice_get (steps_of workers worker) k ≡ Some x
    → ((v j : ℕ) (y : Step) → slice_get (steps_of workers v) j ≡ Some y → ((v ≡ worker) × (j ≡ k) → ⊥) → total g (f y) ≡ 0) → total g (gathered f workers) ≡ total g (f x)
only_step g f workers worker k x at others = total_gathered g f workers
    ∙ (only_at (λ mine. total (λ y. total g (f y)) mine) workers worker (steps_of workers worker) (mine_at workers worker k x at)
    (λ v mine e ne. let same = mine_is workers v mine e in all_zero (λ y. total g (f y)) mine (λ j y d. others v j y (ap (λ l. slice_get l j) same ∙ d) (λ t. ne t.0)))
    ∙ only_at (λ y. total g (f y)) (steps_of workers worker) k x at (λ j y d ne. others worker j y d (λ t. ne t.1)))

-- ---- lists of what a function gives
abbrev weight_of : (ScanMade → ℕ) → Option ScanMade → ℕ
weight_of f None = 0
weight_of f (Some x) = f x

total_option : (f : ScanMade → ℕ) (o : Option ScanMade) (xs : List ScanMade) → total f (cons_option o xs) ≡ weight_of f o + total f xs
total_option f None xs = omega arith
total_option f (Some x) xs = refl

total_kept : {A : Type 0} (f : ScanMade → ℕ) (h : A → Option ScanMade) (xs : List A) → total f (filter_map h xs) ≡ total (λ x. weight_of f (h x)) xs
total_kept f h [] = refl
total_kept f h (x ∷ xs) = omega (arith, total_kept f h xs, total_option f (h x) (filter_map h xs))

has_option : (o : Option ScanMade) (xs : List ScanMade) (a : ScanMade) → Has (cons_option o xs) a → (o ≡ Some a) ⊎ Has xs a
has_option None xs a has = inr has
has_option (Some x) xs a (inl e) = inl (ap Some e)
has_option (Some x) xs a (inr has) = inr has

option_has : (o : Option ScanMade) (xs : List ScanMade) (a : ScanMade) → (o ≡ Some a) ⊎ Has xs a → Has (cons_option o xs) a
option_has None xs a (inl e) = absurd (none-some a e)
option_has None xs a (inr has) = has
option_has (Some x) xs a (inl e) = inl (same_Some x a e)
option_has (Some x) xs a (inr has) = inr has

kept_has : {A : Type 0} (h : A → Option ScanMade) (xs : List A) (a : ScanMade) → Has (filter_map h xs) a → (j : ℕ) × (x : A) × (slice_get xs j ≡ Some x) × (h x ≡ Some a)
kept_has h [] a has = absurd has
kept_has h (x ∷ xs) a has = ⊎_elim (λ e. (0, x, refl, e)) (λ later. let t = kept_has h xs a later in (suc t.0, t.1, t.2, t.3)) (has_option (h x) (filter_map h xs) a has)

has_kept : {A : Type 0} (h : A → Option ScanMade) (xs : List A) (j : ℕ) (x : A) (a : ScanMade) → slice_get xs j ≡ Some x → h x ≡ Some a → Has (filter_map h xs) a
has_kept h [] j x a e k = absurd (none-some x e)
has_kept h (y ∷ xs) zero x a e k = option_has (h y) (filter_map h xs) a (inl (ap h (same_Some y x e) ∙ k))
has_kept h (y ∷ xs) (suc j) x a e k = option_has (h y) (filter_map h xs) a (inr (has_kept h xs j x a e k))

-- a Scan that is told apart is of the worker and of the walk
scan_is : (worker walk number : ℕ) (e : Entry) (s : Script) (x : Step) (m : Made) (a : ScanMade) → scan_by worker walk number e ≡ Some a → walk < first_isolation → MayMakeEntry s x m e → IsScanned x m worker walk
scan_is worker walk number (Scan w n asked policy visits freed stopped) s x m a h low may = by_test ((w == worker) && (n == walk)) refl h where
  by_test : (b : Bool) → ((w == worker) && (n == walk)) ≡ b → cond b (Some (record { number = number; asked = asked; policy = policy; freed = freed })) None ≡ Some a → IsScanned x m worker walk
  by_test false e k = absurd (none-some a k)
  by_test true e k = let t = and_parts (w == worker) (n == walk) e in subst (λ v. IsScanned x m v walk) (eqb-true w worker t.0) (subst (λ v. IsScanned x m w v) (eqb-true n walk t.1) (⊎_elim (λ scanned. scanned) (λ visited. absurd (let high = visited.high in omega (arith, high, low, eqb-true n walk t.1))) may))
scan_is worker walk number e s x m a h low may = absurd (none-some a h)

-- ---- asks of one size
abbrev IsAsked : ℕ → ScanMade → Type 0
IsAsked size z = z.asked ≡ size

asked_alike : (size : ℕ) (xs : List ScanMade) → AllByRecursion (λ v. v ≡ size) (map (λ (z : ScanMade). z.asked) xs) → AllByRecursion (IsAsked size) xs
asked_alike size [] h = tt
asked_alike size (x ∷ xs) h = (h.0, asked_alike size xs h.1)

-- two lists of one length whose asks are all of one size ask the same
constant : (size : ℕ) (xs ys : List ScanMade) → AllByRecursion (IsAsked size) xs → AllByRecursion (IsAsked size) ys → length xs ≡ length ys → map (λ (z : ScanMade). z.asked) xs ≡ map (λ (z : ScanMade). z.asked) ys
constant size [] [] a b e = refl
constant size [] (y ∷ ys) a b e = absurd (omega (arith, e))
constant size (x ∷ xs) [] a b e = absurd (omega (arith, e))
constant size (x ∷ xs) (y ∷ ys) a b e = let first : x.asked ≡ y.asked = a.0 ∙ sym b.0 in let rest = constant size xs ys a.1 b.1 (omega (arith, e)) in λ i. first i ∷ rest i

module _ (s : Script) (r : Report) (workers : List (List Step)) (run : IsRun s r workers) (worker n : ℕ) (w : WalkRecord) (of : WalkOf s r workers run worker n w) where
  -- the step that made a Scan of the walk is the walk's
  walk_step : (v j : ℕ) (y : Step) (m : Made) → slice_get (steps_of workers v) j ≡ Some y → IsScanned y m worker n → (v ≡ worker) × (j ≡ of.k)
  walk_step v j y m at t =
      let by = (run.steps.each v j y at).by in
      let same : v ≡ worker = sym (t.own ∙ ap (λ (z : Serial). z.worker) by) in
      let here : slice_get (steps_of workers worker) j ≡ Some y = subst (λ u. slice_get (steps_of workers u) j ≡ Some y) same at in
      (same, dite (ℕ_discrete j of.k) (λ e. e) (λ ne. ⊎_elim (λ lt. absurd (early j y here t lt)) (λ le. absurd (late j y here t (omega (arith, ne, le)))) (cases_lt j of.k))) where
        early : (j : ℕ) (y : Step) → slice_get (steps_of workers worker) j ≡ Some y → IsScanned y m worker n → j < of.k → ⊥
        early j y here t lt = let g = (grows s r workers run worker j of.k y of.step lt here of.at).walks in
            omega (arith, of.number, t.number, slice_get_within y.work.walks t.index t.walk t.there, ap (λ (l : List WalkRecord). length l) (work_of s r workers run worker j y here).walks, length-append y.before.walks y.work.walks, ap (λ (l : List WalkRecord). length l) g.1, length-append y.after.walks g.0)

        late : (j : ℕ) (y : Step) → slice_get (steps_of workers worker) j ≡ Some y → IsScanned y m worker n → of.k < j → ⊥
        late j y here t lt = let g = (grows s r workers run worker of.k j of.step y lt of.at here).walks in
            omega (arith, of.number, t.number, slice_get_within of.step.work.walks of.i w of.own, ap (λ (l : List WalkRecord). length l) (work_of s r workers run worker of.k of.step of.at).walks, length-append of.step.before.walks of.step.work.walks, ap (λ (l : List WalkRecord). length l) g.1, length-append of.step.after.walks g.0)

  module _ (p : Place) (there : IsThere s p) where
    -- the Scan entries in the journal, and those that the step made
    abbrev in_journal : List ScanMade
    in_journal = scans_by worker n (journals_of r p)

    abbrev of_step : List ScanMade
    of_step = scans_made (place_number p) of.step.by.worker n of.step.work.core.made

    own_worker : of.step.by.worker ≡ worker
    own_worker = ap (λ (z : Serial). z.worker) of.is.by

    scans_weigh : (f : ScanMade → ℕ) → total f in_journal ≡ total f of_step
    scans_weigh f = total_kept f (λ (e : ℕ × Entry). scan_by worker n e.0 e.1) (enumerate_from 0 (journals_of r p))
        ∙ (journal_is s r workers run p there (λ (m : Made). weight_of f (scan_by worker n m.number m.entry)) (λ i e. weight_of f (scan_by worker n i e)) (λ m place stands items. refl)
        ∙ (only_step (at_place (place_number p) (λ (m : Made). weight_of f (scan_by worker n m.number m.entry))) (λ (y : Step). y.work.core.made) workers worker of.k of.step of.at others
        ∙ (same_weights of.step.work.core.made ∙ sym (total_kept f (scan_made (place_number p) of.step.by.worker n) of.step.work.core.made)))) where
          same_weights : (ms : List Made) → total (at_place (place_number p) (λ (m : Made). weight_of f (scan_by worker n m.number m.entry))) ms ≡ total (λ m. weight_of f (scan_made (place_number p) of.step.by.worker n m)) ms
          same_weights [] = refl
          same_weights (m ∷ ms) = omega (arith, same_weights ms, one (m.place == place_number p) ∙ ap (λ v. weight_of f (cond (m.place == place_number p) (scan_by v n m.number m.entry) None)) (sym own_worker)) where
            one : (b : Bool) → cond b (weight_of f (scan_by worker n m.number m.entry)) 0 ≡ weight_of f (cond b (scan_by worker n m.number m.entry) None)
            one true = refl
            one false = refl

          others : (v j : ℕ) (y : Step) → slice_get (steps_of workers v) j ≡ Some y → ((v ≡ worker) × (j ≡ of.k) → ⊥) → total (at_place (place_number p) (λ (m : Made). weight_of f (scan_by worker n m.number m.entry))) y.work.core.made ≡ 0
          others v j y at apart = all_zero (at_place (place_number p) (λ (m : Made). weight_of f (scan_by worker n m.number m.entry))) y.work.core.made
              (λ i m e. none m (m.place == place_number p) (scan_by worker n m.number m.entry) refl (each_among (λ (z : Made). MayMakeEntry s y z z.entry) y.work.core.made m (run.steps.each v j y at).did.entries.each (i, some_at y.work.core.made i m e))) where
                none : (m : Made) (b : Bool) (o : Option ScanMade) → scan_by worker n m.number m.entry ≡ o → MayMakeEntry s y m m.entry → cond b (weight_of f o) 0 ≡ 0
                none m true None e may = refl
                none m false None e may = refl
                none m false (Some a) e may = refl
                none m true (Some a) e may = absurd (apart (walk_step v j y m at (scan_is worker n m.number m.entry s y m a e of.did.low may)))

    -- each in the journal is one of the step
    scans_has : (a : ScanMade) → Has in_journal a → Has of_step a
    scans_has a has =
        let t = kept_has (λ (e : ℕ × Entry). scan_by worker n e.0 e.1) (enumerate_from 0 (journals_of r p)) a has in
        let stands = enumerated 0 (journals_of r p) t.0 t.1 t.2 in
        let number : t.1.0 ≡ t.0 = stands.1 ∙ omega arith in
        let m = maker s r workers run p t.1.0 t.1.1 (ap (slice_get (journals_of r p)) number ∙ stands.0) in
        let may = subst (MayMakeEntry s m.step m.made) m.entry (each_among (λ (z : Made). MayMakeEntry s m.step z z.entry) m.step.work.core.made m.made (run.steps.each m.worker m.k m.step m.at).did.entries.each m.among) in
        let same = walk_step m.worker m.k m.step m.made m.at (scan_is worker n t.1.0 t.1.1 s m.step m.made a t.3 of.did.low may) in
        let step : m.step ≡ of.step = same_step workers m.worker m.k worker of.k m.step of.step m.at of.at same.0 same.1 in
        let among : IsAmong m.made of.step.work.core.made = subst (λ (z : Step). IsAmong m.made z.work.core.made) step m.among in
        let place : m.made.place ≡ place_number p = sym (back m.made.place) ∙ ap place_number m.place_is in
        has_kept (scan_made (place_number p) of.step.by.worker n) of.step.work.core.made among.0 m.made a (at_some of.step.work.core.made among.0 m.made among.1)
        (ap (λ b. cond b (scan_by of.step.by.worker n m.made.number m.made.entry) None) (eq-eqb m.made.place (place_number p) place)
        ∙ (ap (λ v. scan_by v n m.made.number m.made.entry) own_worker ∙ (ap (λ i. scan_by worker n i m.made.entry) m.number ∙ (ap (scan_by worker n t.1.0) m.entry ∙ t.3))))

    all_from : (P : ScanMade → Type 0) → AllByRecursion P of_step → AllByRecursion P in_journal
    all_from P all = go in_journal (λ a has. each_has P of_step a all (scans_has a has)) where
      go : (xs : List ScanMade) → ((a : ScanMade) → Has xs a → P a) → AllByRecursion P xs
      go [] h = tt
      go (a ∷ xs) h = (h a (inl refl), go xs (λ b has. h b (inr has)))

    -- so they are those of the pass
    pub scans_are : (priority : ℕ) (d : CacheDecl) (q : PassRecord) → AreScansOf priority d q of_step → AreScansOf priority d q in_journal
    scans_are priority d q h = record {
      asked = constant (ask_size (batch_of d.batch) q.len (total_of q.len q.nr priority d.seeks)) in_journal of_step (all_from (IsAsked (ask_size (batch_of d.batch) q.len (total_of q.len q.nr priority d.seeks)))
          (asked_alike (ask_size (batch_of d.batch) q.len (total_of q.len q.nr priority d.seeks)) of_step (subst (AllByRecursion (λ v. v ≡ ask_size (batch_of d.batch) q.len (total_of q.len q.nr priority d.seeks))) (sym h.asked)
          (take_alike (ask_size (batch_of d.batch) q.len (total_of q.len q.nr priority d.seeks)) (q.asks - q.closed) (due (batch_of d.batch) q.len (total_of q.len q.nr priority d.seeks))))))
          (asked_alike (ask_size (batch_of d.batch) q.len (total_of q.len q.nr priority d.seeks)) of_step (subst (AllByRecursion (λ v. v ≡ ask_size (batch_of d.batch) q.len (total_of q.len q.nr priority d.seeks))) (sym h.asked)
          (take_alike (ask_size (batch_of d.batch) q.len (total_of q.len q.nr priority d.seeks)) (q.asks - q.closed) (due (batch_of d.batch) q.len (total_of q.len q.nr priority d.seeks)))))
          same_length ∙ h.asked;
      number = same_length ∙ h.number;
      policy = all_from (λ (z : ScanMade). z.policy ≡ d.policy) h.policy;
      freed = sum_total (λ (z : ScanMade). z.freed) in_journal ∙ (scans_weigh (λ z. z.freed) ∙ (sym (sum_total (λ (z : ScanMade). z.freed) of_step) ∙ h.freed));
      later = all_from (λ (z : ScanMade). q.version ≤ z.number) h.later;
    } where
      same_length : length in_journal ≡ length of_step
      same_length = length_total in_journal ∙ (scans_weigh (λ z. 1) ∙ sym (length_total of_step))
