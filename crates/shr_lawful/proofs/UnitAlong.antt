-- SPDX-License-Identifier: GPL-2.0-only
-- Lists of the state that a worker's steps make longer.
use Rattle.shr_lawful.proofs.UnitsCommon.{◌≡◌, ℕ, zero, suc, ◌+◌, ◌<◌, ◌≤◌, ◌≢◌, ◌⊎◌, inl, inr, ⊎_elim, List, [], ◌∷◌, ◌++◌, length, flat_map, sym, refl, ap, subst, ◌∙◌, arith, append_assoc, slice_get, Some, same_Some, none-some, append-nil, Begins, begins_all, begins_more, PlainState, UnitsStep, AreChained, units_state_after, drop, drop-append_seam}

pub slice_cases : {A : Type 0} (xs ys : List A) (n : ℕ) (x : A) → slice_get (xs ++ ys) n ≡ Some x → (slice_get xs n ≡ Some x) ⊎ ((m : ℕ) × (n ≡ length xs + m) × (slice_get ys m ≡ Some x))
slice_cases [] ys n x e = inr (n, omega arith, e)
slice_cases (y ∷ xs) ys zero x e = inl e
slice_cases (y ∷ xs) ys (suc n) x e = ⊎_elim (λ a. inl a) (λ b. inr (b.0, omega (arith, b.1), b.2)) (slice_cases xs ys n x e)

module _ {A : Type 0} (g : PlainState → List A) where
  -- what a step added
  abbrev pub gained : UnitsStep → List A
  gained x = drop (length (g x.before)) (g x.after)

  pub gained_is : (x : UnitsStep) (more : List A) → g x.after ≡ g x.before ++ more → gained x ≡ more
  gained_is x more e = ap (drop (length (g x.before))) e ∙ drop-append_seam (g x.before) more

  pub gained_all : (x : UnitsStep) → Begins (g x.before) (g x.after) → g x.after ≡ g x.before ++ gained x
  gained_all x b = b.1 ∙ ap (λ l. g x.before ++ l) (sym (gained_is x b.0 b.1))

  -- each step makes the list longer, or leaves it
  abbrev pub Longer : List UnitsStep → Type 0
  Longer mine = (k : ℕ) (x : UnitsStep) → slice_get mine k ≡ Some x → Begins (g x.before) (g x.after)

  first : (t : PlainState) (x : UnitsStep) (xs : List UnitsStep) → AreChained t (x ∷ xs) → Longer (x ∷ xs) → Begins (g t) (g x.after)
  first t x xs c l = subst (λ (u : PlainState). Begins (g u) (g x.after)) c.0 (l 0 x refl)

  pub along : (t : PlainState) (mine : List UnitsStep) → AreChained t mine → Longer mine → Begins (g t) (g (units_state_after t mine))
  along t [] c l = begins_all (g t)
  along t (x ∷ xs) c l = begins_more (g t) (g x.after) (g (units_state_after x.after xs)) (first t x xs c l) (along x.after xs c.1 (λ k y e. l (suc k) y e))

  pub after_begins : (t : PlainState) (mine : List UnitsStep) → AreChained t mine → Longer mine → (k : ℕ) (x : UnitsStep) → slice_get mine k ≡ Some x → Begins (g x.after) (g (units_state_after t mine))
  after_begins t [] c l k x e = absurd (none-some x e)
  after_begins t (y ∷ xs) c l zero x e = subst (λ (z : UnitsStep). Begins (g z.after) (g (units_state_after y.after xs))) (same_Some y x e) (along y.after xs c.1 (λ k z d. l (suc k) z d))
  after_begins t (y ∷ xs) c l (suc k) x e = after_begins y.after xs c.1 (λ k z d. l (suc k) z d) k x e

  start_begins : (t : PlainState) (mine : List UnitsStep) → AreChained t mine → Longer mine → (k : ℕ) (x : UnitsStep) → slice_get mine k ≡ Some x → Begins (g t) (g x.before)
  start_begins t [] c l k x e = absurd (none-some x e)
  start_begins t (y ∷ xs) c l zero x e = subst (λ (u : PlainState). Begins (g u) (g x.before)) (ap (λ (z : UnitsStep). z.before) (sym (same_Some y x e)) ∙ c.0) (begins_all (g x.before))
  start_begins t (y ∷ xs) c l (suc k) x e = begins_more (g t) (g y.after) (g x.before) (first t y xs c l) (start_begins y.after xs c.1 (λ k z d. l (suc k) z d) k x e)

  -- what a worker had after a step it has before each later one
  pub later_begins : (t : PlainState) (mine : List UnitsStep) → AreChained t mine → Longer mine → (k later : ℕ) (x y : UnitsStep) → k < later → slice_get mine k ≡ Some x → slice_get mine later ≡ Some y → Begins (g x.after) (g y.before)
  later_begins t [] c l k later x y lt e d = absurd (none-some x e)
  later_begins t (z ∷ xs) c l k zero x y lt e d = absurd (omega (arith, lt))
  later_begins t (z ∷ xs) c l zero (suc later) x y lt e d = subst (λ (v : UnitsStep). Begins (g v.after) (g y.before)) (same_Some z x e) (start_begins z.after xs c.1 (λ k v f. l (suc k) v f) later y d)
  later_begins t (z ∷ xs) c l (suc k) (suc later) x y lt e d = later_begins z.after xs c.1 (λ k v f. l (suc k) v f) k later x y (omega (arith, lt)) e d

  -- the step that added an element
  pub record Source (mine : List UnitsStep) (n : ℕ) (a : A) : Type 0 where
    pub k : ℕ
    pub step : UnitsStep
    pub at : slice_get mine k ≡ Some step
    pub index : ℕ
    pub number : n ≡ length (g step.before) + index
    pub added : slice_get (gained step) index ≡ Some a

  pub source : (t : PlainState) (mine : List UnitsStep) → AreChained t mine → Longer mine → (n : ℕ) (a : A) → slice_get (g (units_state_after t mine)) n ≡ Some a → (slice_get (g t) n ≡ Some a) ⊎ Source mine n a
  source t [] c l n a e = inl e
  source t (x ∷ xs) c l n a e = ⊎_elim here (λ (o : Source xs n a). inr (record { k = suc o.k; step = o.step; at = o.at; index = o.index; number = o.number; added = o.added })) (source x.after xs c.1 (λ k y d. l (suc k) y d) n a e)
    where
      here : slice_get (g x.after) n ≡ Some a → (slice_get (g t) n ≡ Some a) ⊎ Source (x ∷ xs) n a
      here h = ⊎_elim (λ b. inl (subst (λ (u : PlainState). slice_get (g u) n ≡ Some a) c.0 b)) (λ m. inr (record { k = 0; step = x; at = refl; index = m.0; number = m.1; added = m.2 }))
          (slice_cases (g x.before) (gained x) n a (subst (λ l. slice_get l n ≡ Some a) (gained_all x (l 0 x refl)) h))

  -- the whole list is what the steps added
  pub all_gained : (t : PlainState) (mine : List UnitsStep) → AreChained t mine → Longer mine → g (units_state_after t mine) ≡ g t ++ flat_map gained mine
  all_gained t [] c l = sym (append-nil (g t))
  all_gained t (x ∷ xs) c l = all_gained x.after xs c.1 (λ k y d. l (suc k) y d) ∙ (ap (λ h. h ++ flat_map gained xs) (gained_all x (l 0 x refl) ∙ ap (λ (u : PlainState). g u ++ gained x) c.0) ∙ append_assoc (g t) (gained x) (flat_map gained xs))
