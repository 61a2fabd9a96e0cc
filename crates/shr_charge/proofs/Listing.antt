-- SPDX-License-Identifier: GPL-2.0-only
-- Elements by their number, in lists that grow at their end.
use Rattle.shr_charge.proofs.Common.{◌≡◌, ℕ, zero, suc, ◌+◌, ◌<◌, ◌≤◌, ◌-◌, ◌⊎◌, inl, inr, Bool, true, false, cond, List, [], ◌∷◌, ◌++◌, length, take, get_or, sym, refl, ap, subst, ◌∙◌, ⊎_elim, arith, Option, Some, None, slice_get, position_from, option_or, IsSome, cases_Bool, add-one, take-append-le}
use Rattle.std.proofs.Math.Seq.{take-append_seam}
use Rattle.shr_model.proofs.Lists.{some_injective}

none_some : {A : Type 0} (x : A) → None ≡ Some x → ⊥
none_some x e = cc

module _ {A : Type 0} where
  pub get_longer : (xs ys : List A) (n : ℕ) (x : A) → slice_get xs n ≡ Some x → slice_get (xs ++ ys) n ≡ Some x
  get_longer [] ys n x e = absurd (none_some x e)
  get_longer (y ∷ xs) ys zero x e = e
  get_longer (y ∷ xs) ys (suc n) x e = get_longer xs ys n x e

  pub get_last : (xs : List A) (x : A) (n : ℕ) → n ≡ length xs → slice_get (xs ++ x ∷ []) n ≡ Some x
  get_last [] x zero e = refl
  get_last [] x (suc n) e = absurd (omega arith)
  get_last (y ∷ xs) x zero e = absurd (omega arith)
  get_last (y ∷ xs) x (suc n) e = get_last xs x n (omega arith)

  pub get_below : (xs : List A) (n : ℕ) (x : A) → slice_get xs n ≡ Some x → n < length xs
  get_below [] n x e = absurd (none_some x e)
  get_below (y ∷ xs) zero x e = omega arith
  get_below (y ∷ xs) (suc n) x e = omega (arith, get_below xs n x e)

  -- an element of a list with one more is one of the list, or the new one
  pub get_snoc : (xs : List A) (y x : A) (n : ℕ) → slice_get (xs ++ y ∷ []) n ≡ Some x → (slice_get xs n ≡ Some x) ⊎ ((n ≡ length xs) × (y ≡ x))
  get_snoc [] y x zero e = inr (refl, some_injective y x e)
  get_snoc [] y x (suc n) e = absurd (none_some x e)
  get_snoc (z ∷ xs) y x zero e = inl e
  get_snoc (z ∷ xs) y x (suc n) e = ⊎_elim (λ t. inl t) (λ t. inr (ap suc t.0, t.1)) (get_snoc xs y x n e)

  -- what may stand after what is before it, with one more
  pub stands_push : (P : List A → A → Type 0) (xs : List A) (y : A) → ((n : ℕ) (x : A) → slice_get xs n ≡ Some x → P (take n xs) x) → P xs y
      → (n : ℕ) (x : A) → slice_get (xs ++ y ∷ []) n ≡ Some x → P (take n (xs ++ y ∷ [])) x
  stands_push P xs y all p n x e = ⊎_elim
      (λ (t : slice_get xs n ≡ Some x). let low : n < length xs = get_below xs n x t in subst (λ (l : List A). P l x) (sym (take-append-le n xs (y ∷ []) (omega arith))) (all n x t))
      (λ (t : (n ≡ length xs) × (y ≡ x)). subst (λ (l : List A). P l x) (sym (ap (λ (k : ℕ). take k (xs ++ y ∷ [])) t.0 ∙ take-append_seam xs (y ∷ []))) (subst (P xs) t.1 p))
      (get_snoc xs y x n e)

position_step : (b : Bool) (i : ℕ) (all front back : Option ℕ) → all ≡ option_or front back → cond b (Some i) all ≡ option_or (cond b (Some i) front) back
position_step true i all front back e = refl
position_step false i all front back e = e

-- the first that passes, in a list that grows
module _ {A : Type 0} (p : A → Bool) where
  pub position-append : (i : ℕ) (xs ys : List A) → position_from p i (xs ++ ys) ≡ option_or (position_from p i xs) (position_from p (i + length xs) ys)
  position-append i [] ys = ap (λ (k : ℕ). position_from p k ys) (let e : i ≡ i + 0 = omega arith in e)
  position-append i (x ∷ xs) ys = position_step (p x) i (position_from p (i + 1) (xs ++ ys)) (position_from p (i + 1) xs) (position_from p (i + length (x ∷ xs)) ys)
      (position-append (i + 1) xs ys ∙ ap (λ (k : ℕ). option_or (position_from p (i + 1) xs) (position_from p k ys)) (let e : i + 1 + length xs ≡ i + length (x ∷ xs) = omega arith in e))

  -- it stands there and passes
  pub position-at : (i : ℕ) (xs : List A) (n : ℕ) → position_from p i xs ≡ Some n → (x : A) × (i ≤ n) × (slice_get xs (n - i) ≡ Some x) × (p x ≡ true)
  position-at i [] n e = absurd (none_some n e)
  position-at i (x ∷ xs) n e = ⊎_elim
      (λ (t : p x ≡ true). let here : i ≡ n = some_injective i n (sym (ap (λ b. cond b (Some i) (position_from p (i + 1) xs)) t) ∙ e) in
      (x, omega arith, ap (slice_get (x ∷ xs)) (let z : n - i ≡ 0 = omega arith in z), t))
      (λ (f : p x ≡ false). let r = position-at (i + 1) xs n (sym (ap (λ b. cond b (Some i) (position_from p (i + 1) xs)) f) ∙ e) in
      let low = r.1 in let later : n - i ≡ suc (n - (i + 1)) = omega arith in
      (r.0, omega arith, ap (slice_get (x ∷ xs)) later ∙ r.2, r.3))
      (cases_Bool (p x))

module _ {A : Type 0} where
  -- one element more from the front
  pub take_next : (ys : List A) (n : ℕ) (x : A) → slice_get ys n ≡ Some x → take (n + 1) ys ≡ take n ys ++ x ∷ []
  take_next [] n x e = absurd (none_some x e)
  take_next (y ∷ ys) zero x e = ap (λ z. z ∷ []) (some_injective y x e)
  take_next (y ∷ ys) (suc n) x e = rw add-one (ap (λ l. y ∷ l) (ap (λ (k : ℕ). take k ys) (let e : suc n ≡ n + 1 = omega arith in e) ∙ take_next ys n x e))

  pub get_here : (ys : List A) (n : ℕ) (d : A) → n < length ys → slice_get ys n ≡ Some (get_or ys n d)
  get_here [] n d low = absurd (omega arith)
  get_here (y ∷ ys) zero d low = refl
  get_here (y ∷ ys) (suc n) d low = get_here ys n d (omega arith)

-- the value of an option that has one
pub some_is : (x : Option ℕ) → IsSome x → (n : ℕ) × (x ≡ Some n)
some_is None h = absurd (let c : false ≡ true = h in cc)
some_is (Some n) h = (n, refl)
