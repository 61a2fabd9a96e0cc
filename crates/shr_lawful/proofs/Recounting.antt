-- SPDX-License-Identifier: GPL-2.0-only
-- A sum over a journal is the sum over the entries that the steps made there.
use Rattle.shr_lawful.proofs.Common.{◌≡◌, ℕ, suc, ◌+◌, ◌*◌, ◌<◌, ◌≢◌, ⊎_elim, inl, inr, true, false, cond, List, [], ◌∷◌, length, sym, refl, ap, subst, ◌∙◌, arith, eq-eqb, ne_eqb, slice_get, Some, nat_lt, nat_le, ◌==◌, enumerate_from, AllByRecursion, cases_lt, same_Some, none-some, slice_get_within, dite, ℕ_discrete, Place, Entry, Script, place_number, AreApart, Has, Has_from_Contains, Contains_from_Has, map_has, AreApart_of_ends, find_end, PlaceEnd, Each, total, total_zero, total_both, place_at, Made, hit, back, Report, journal_of, journals_of, places_of, items_before, IsThere, Step, IsAmong, all_made, IsRun, not_le, cond_no, cond_yes}
use Rattle.std.proofs.Common.{le-leb}
use Rattle.shr_lawful.proofs.Gathering.{total_same_on, has_step, made_stands, back_there, below_one}
use Rattle.shr_lawful.proofs.Listed.{contains_slice}

-- a weight of the entries made at a place with this number; with numbers from a first one on; with one number
abbrev pub at_place : ℕ → (Made → ℕ) → Made → ℕ
at_place k g m = cond (m.place == k) (g m) 0

abbrev at_from : ℕ → ℕ → (Made → ℕ) → Made → ℕ
at_from k i g m = cond (m.place == k) (cond (nat_le i m.number) (g m) 0) 0

abbrev at_one : ℕ → ℕ → (Made → ℕ) → Made → ℕ
at_one k i g m = cond (m.place == k) (cond (m.number == i) (g m) 0) 0

module _ (k : ℕ) (g : Made → ℕ) where
  from_one : (i : ℕ) (m : Made) → at_from k i g m ≡ at_one k i g m + at_from k (i + 1) g m
  from_one i m = dite (ℕ_discrete m.place k)
      (λ here. let t : (m.place == k) ≡ true = eq-eqb m.place k here in
      dite (ℕ_discrete m.number i)
      (λ e. let a = cond_yes (m.number == i) (g m) 0 (eq-eqb m.number i e) in let b = cond_yes (nat_le i m.number) (g m) 0 (le-leb i m.number (omega (arith, e))) in let c = cond_no (nat_le (i + 1) m.number) (g m) 0 (not_le (i + 1) m.number (omega (arith, e))) in
      omega (arith, cond_yes (m.place == k) (cond (nat_le i m.number) (g m) 0) 0 t, cond_yes (m.place == k) (cond (m.number == i) (g m) 0) 0 t, cond_yes (m.place == k) (cond (nat_le (i + 1) m.number) (g m) 0) 0 t, a, b, c))
      (λ ne. let a = cond_no (m.number == i) (g m) 0 (ne_eqb m.number i ne) in
      ⊎_elim
      (λ lt. let b = cond_no (nat_le i m.number) (g m) 0 (not_le i m.number lt) in let c = cond_no (nat_le (i + 1) m.number) (g m) 0 (not_le (i + 1) m.number (omega (arith, lt))) in
      omega (arith, cond_yes (m.place == k) (cond (nat_le i m.number) (g m) 0) 0 t, cond_yes (m.place == k) (cond (m.number == i) (g m) 0) 0 t, cond_yes (m.place == k) (cond (nat_le (i + 1) m.number) (g m) 0) 0 t, a, b, c))
      (λ le. let b = cond_yes (nat_le i m.number) (g m) 0 (le-leb i m.number le) in let c = cond_yes (nat_le (i + 1) m.number) (g m) 0 (le-leb (i + 1) m.number (omega (arith, le, ne))) in
      omega (arith, cond_yes (m.place == k) (cond (nat_le i m.number) (g m) 0) 0 t, cond_yes (m.place == k) (cond (m.number == i) (g m) 0) 0 t, cond_yes (m.place == k) (cond (nat_le (i + 1) m.number) (g m) 0) 0 t, a, b, c))
      (cases_lt m.number i)))
      (λ away. let f : (m.place == k) ≡ false = ne_eqb m.place k away in
      omega (arith, cond_no (m.place == k) (cond (nat_le i m.number) (g m) 0) 0 f, cond_no (m.place == k) (cond (m.number == i) (g m) 0) 0 f, cond_no (m.place == k) (cond (nat_le (i + 1) m.number) (g m) 0) 0 f))

  total_from : (i : ℕ) (l : List Made) → total (at_from k i g) l ≡ total (at_one k i g) l + total (at_from k (i + 1) g) l
  total_from i [] = refl
  total_from i (m ∷ l) = omega (arith, from_one i m, total_from i l)

  -- one entry has the weight c, as often as it is there
  one_weighs : (i c : ℕ) (l : List Made) → Each (λ (m : Made). m.place ≡ k → m.number ≡ i → g m ≡ c) l → total (at_one k i g) l ≡ total (hit k i) l * c
  one_weighs i c [] h = omega arith
  one_weighs i c (m ∷ l) h = omega (arith, one_weighs i c l (λ j x e. h (suc j) x e), own) where
    times_one : (c b : ℕ) → b ≡ 1 → b * c ≡ c
    times_one c b e = ap (λ x. x * c) e ∙ omega arith

    times_none : (c b : ℕ) → b ≡ 0 → b * c ≡ 0
    times_none c b e = ap (λ x. x * c) e ∙ omega arith

    own : at_one k i g m ≡ hit k i m * c
    own = dite (ℕ_discrete m.place k)
        (λ here. let t : (m.place == k) ≡ true = eq-eqb m.place k here in dite (ℕ_discrete m.number i)
        (λ e. let n = eq-eqb m.number i e in cond_yes (m.place == k) (cond (m.number == i) (g m) 0) 0 t ∙ (cond_yes (m.number == i) (g m) 0 n ∙ (h 0 m refl here e
        ∙ sym (times_one c (hit k i m) (cond_yes (m.place == k) (cond (m.number == i) 1 0) 0 t ∙ cond_yes (m.number == i) 1 0 n)))))
        (λ ne. let n = ne_eqb m.number i ne in cond_yes (m.place == k) (cond (m.number == i) (g m) 0) 0 t ∙ (cond_no (m.number == i) (g m) 0 n
        ∙ sym (times_none c (hit k i m) (cond_yes (m.place == k) (cond (m.number == i) 1 0) 0 t ∙ cond_no (m.number == i) 1 0 n)))))
        (λ away. let f : (m.place == k) ≡ false = ne_eqb m.place k away in cond_no (m.place == k) (cond (m.number == i) (g m) 0) 0 f ∙ sym (times_none c (hit k i m) (cond_no (m.place == k) (cond (m.number == i) 1 0) 0 f)))

-- ---- one journal
module _ (s : Script) (r : Report) (workers : List (List Step)) (run : IsRun s r workers) where
  -- what some step made stands
  pub all_stand : Each (λ (m : Made). IsThere s (place_at m.place) × (slice_get (journals_of r (place_at m.place)) m.number ≡ Some m.entry) × (m.items ≡ items_before s r (place_at m.place) m.number)) (all_made workers)
  all_stand j m e = let of = has_step (λ (x : Step). x.work.core.made) workers m (j, e) in let t = made_stands s r workers run of.worker of.k of.step of.at of.has.0 m of.has.1 in (t.0, t.1.entry, t.1.items)

  module _ (p : Place) (there : IsThere s p) (g : Made → ℕ) (f : ℕ → Entry → ℕ) (same : (m : Made) → place_at m.place ≡ p → slice_get (journals_of r p) m.number ≡ Some m.entry → m.items ≡ items_before s r p m.number → g m ≡ f m.number m.entry) where
    journal_from : (i : ℕ) (es : List Entry) → length (journals_of r p) ≡ i + length es → ((j : ℕ) (e : Entry) → slice_get es j ≡ Some e → slice_get (journals_of r p) (i + j) ≡ Some e)
        → total (λ (e : ℕ × Entry). f e.0 e.1) (enumerate_from i es) ≡ total (at_from (place_number p) i g) (all_made workers)
    journal_from i [] long at = sym (total_zero (at_from (place_number p) i g) (all_made workers) none) where
      none : Each (λ (m : Made). at_from (place_number p) i g m ≡ 0) (all_made workers)
      none j m e = dite (ℕ_discrete m.place (place_number p))
          (λ here. let t = all_stand j m e in let place : place_at m.place ≡ p = ap place_at here ∙ back_there s r workers run p there in
          let below : m.number < length (journals_of r p) = slice_get_within (journals_of r p) m.number m.entry (ap (λ q. slice_get (journals_of r q) m.number) (sym place) ∙ t.1) in
          cond_yes (m.place == place_number p) (cond (nat_le i m.number) (g m) 0) 0 (eq-eqb m.place (place_number p) here) ∙ cond_no (nat_le i m.number) (g m) 0 (not_le i m.number (omega (arith, below, long))))
          (λ away. cond_no (m.place == place_number p) (cond (nat_le i m.number) (g m) 0) 0 (ne_eqb m.place (place_number p) away))
    journal_from i (e ∷ es) long at = omega (
      arith,
      journal_from (i + 1) es (omega (arith, long)) (λ j d h. ap (slice_get (journals_of r p)) (let z : i + 1 + j ≡ i + suc j = omega arith in z) ∙ at (suc j) d h),
      total_from (place_number p) g i (all_made workers),
      one_weighs (place_number p) g i (f i e) (all_made workers) weighs_it,
      one ∙ one_times (f i e),
    ) where
      here_e : slice_get (journals_of r p) i ≡ Some e
      here_e = ap (slice_get (journals_of r p)) (let z : i ≡ i + 0 = omega arith in z) ∙ at 0 e refl

      one_times : (c : ℕ) → 1 * c ≡ c
      one_times c = omega arith

      one : total (hit (place_number p) i) (all_made workers) * f i e ≡ 1 * f i e
      one = ap (λ x. x * f i e) (run.journals.once (place_number p) i ∙ (ap (λ q. cond {A = ℕ} (nat_lt i (length (journals_of r q))) 1 0) (back_there s r workers run p there) ∙ below_one i (length (journals_of r p)) (slice_get_within (journals_of r p) i e here_e)))

      weighs_it : Each (λ (m : Made). m.place ≡ place_number p → m.number ≡ i → g m ≡ f i e) (all_made workers)
      weighs_it j m h at_k at_i =
          let t = all_stand j m h in let place : place_at m.place ≡ p = ap place_at at_k ∙ back_there s r workers run p there in
          let stands : slice_get (journals_of r p) m.number ≡ Some m.entry = ap (λ q. slice_get (journals_of r q) m.number) (sym place) ∙ t.1 in
          let entry : m.entry ≡ e = same_Some m.entry e (sym stands ∙ (ap (slice_get (journals_of r p)) at_i ∙ here_e)) in
          same m place stands (t.2 ∙ ap (λ q. items_before s r q m.number) place) ∙ ap (λ n. f n m.entry) at_i ∙ ap (f i) entry

    -- the sum over the journal of a place
    pub journal_is : total (λ (e : ℕ × Entry). f e.0 e.1) (enumerate_from 0 (journals_of r p)) ≡ total (at_place (place_number p) g) (all_made workers)
    journal_is = journal_from 0 (journals_of r p) (omega arith) (λ j e h. ap (slice_get (journals_of r p)) (let z : 0 + j ≡ j = omega arith in z) ∙ h)
        ∙ total_same_on (at_from (place_number p) 0 g) (at_place (place_number p) g) (all_made workers) (λ m. ap (λ b. cond (m.place == place_number p) (cond b (g m) 0) 0) (le-leb 0 m.number (omega arith)))

-- ---- all journals
-- a place is found once among different ones
one_place : (k c : ℕ) (q : Place) (ps : List Place) → AreApart ps → Has ps q → place_number q ≡ k → ((p : Place) → Has ps p → place_number p ≡ k → p ≡ q) → total (λ (p : Place). cond (k == place_number p) c 0) ps ≡ c
one_place k c q [] apart has number only = absurd has
one_place k c q (p ∷ ps) apart (inl here) number only = omega (arith, cond_yes (k == place_number p) c 0 (eq-eqb k (place_number p) (sym number ∙ ap place_number (sym here))), others ps apart.0 (λ d has. only d (inr has))) where
  others : (ds : List Place) → AllByRecursion (λ d. p ≢ d) ds → ((d : Place) → Has ds d → place_number d ≡ k → d ≡ q) → total (λ (d : Place). cond (k == place_number d) c 0) ds ≡ 0
  others [] all same = refl
  others (d ∷ ds) all same = omega (arith, cond_no (k == place_number d) c 0 (ne_eqb k (place_number d) (λ e. all.0 (here ∙ sym (same d (inl refl) (sym e))))), others ds all.1 (λ z has. same z (inr has)))
one_place k c q (p ∷ ps) apart (inr later) number only = omega (
  arith,
  one_place k c q ps apart.1 later number (λ d has. only d (inr has)),
  cond_no (k == place_number p) c 0 (ne_eqb k (place_number p) (λ e. differs ps apart.0 later (only p (inl refl) (sym e)))),
) where
  differs : (ds : List Place) → AllByRecursion (λ d. p ≢ d) ds → Has ds q → p ≡ q → ⊥
  differs (d ∷ ds) all (inl e) same = all.0 (same ∙ sym e)
  differs (d ∷ ds) all (inr h) same = differs ds all.1 h same
  differs [] all h same = h

module _ (s : Script) (r : Report) (workers : List (List Step)) (run : IsRun s r workers) (g : Made → ℕ) where
  printed_has : (p : Place) → Has (places_of r) p → IsThere s p
  printed_has p has = let t = map_has (λ (end : PlaceEnd). end.place) r.places.items p has in let n = contains_slice r.places.items t.0 (Contains_from_Has r.places.items t.0 t.1) in
      subst (IsThere s) t.2 (run.journals.printed n.0 t.0 n.1).there

  -- the place of each entry that was made is printed
  made_printed : (m : Made) → IsAmong m (all_made workers) → Has (places_of r) (place_at m.place)
  made_printed m (j, e) = let stands = (all_stand s r workers run j m e).1 in
      ⊎_elim (λ none. absurd (none-some m.entry (sym (ap (λ o. slice_get (journal_of o) m.number) none) ∙ stands))) (λ has. Has_from_Contains (places_of r) (place_at m.place) has) (find_end r.places.items (place_at m.place))

  by_places : (l : List Made) → ((m : Made) → IsAmong m l → Has (places_of r) (place_at m.place)) → total (λ (p : Place). total (at_place (place_number p) g) l) (places_of r) ≡ total g l
  by_places [] h = total_zero (λ (p : Place). 0) (places_of r) (λ j p e. refl)
  by_places (m ∷ l) h = omega (
    arith,
    total_both (λ (p : Place). at_place (place_number p) g m) (λ (p : Place). total (at_place (place_number p) g) l) (places_of r),
    by_places l (λ x among. h x (suc among.0, among.1)),
    one_place m.place (g m) (place_at m.place) (places_of r) (AreApart_of_ends r.places.items run.journals.order) (h m (0, refl)) (back m.place)
        (λ p has e. sym (back_there s r workers run p (printed_has p has)) ∙ ap place_at e),
  )

  module _ (f : Place → ℕ → Entry → ℕ) (same : (m : Made) (p : Place) → place_at m.place ≡ p → slice_get (journals_of r p) m.number ≡ Some m.entry → m.items ≡ items_before s r p m.number → g m ≡ f p m.number m.entry) where
    each_place : (ps : List Place) → ((p : Place) → Has ps p → IsThere s p) → total (λ (p : Place). total (λ (e : ℕ × Entry). f p e.0 e.1) (enumerate_from 0 (journals_of r p))) ps ≡ total (λ (p : Place). total (at_place (place_number p) g) (all_made workers)) ps
    each_place [] h = refl
    each_place (p ∷ ps) h = omega (arith, each_place ps (λ q has. h q (inr has)), journal_is s r workers run p (h p (inl refl)) g (f p) (λ m place stands items. same m p place stands items))

    -- the sum over all journals
    pub journals_are : total (λ (p : Place). total (λ (e : ℕ × Entry). f p e.0 e.1) (enumerate_from 0 (journals_of r p))) (places_of r) ≡ total g (all_made workers)
    journals_are = each_place (places_of r) printed_has ∙ by_places (all_made workers) made_printed
