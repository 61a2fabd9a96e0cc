-- SPDX-License-Identifier: GPL-2.0-only
-- Sums over lists of which one or two elements change, and what holds of each element of them.
use Rattle.shr_seats.proofs.Common.{◌≡◌, ℕ, zero, suc, ◌+◌, ◌<◌, ◌≤◌, ◌≢◌, List, [], ◌∷◌, ◌++◌, map, set, sym, refl, ap, subst, ⊎_elim, ◌∙◌, arith, sum_by, some, some-injective, some-ne-none, get_elem?, at_set, at_snoc, set_else, Each}
use Rattle.std.specs.List.{range_with_len}
use Rattle.std.proofs.lemmas.List.Sums.{sum_by-cons, sum_by-append}

module _ {A : Type 0} (g : A → ℕ) where
  -- one element changes
  pub sum_by-changed : (l : List A) (j : ℕ) (v w : A) → get_elem? l j ≡ some v → sum_by g (set l j w) + g v ≡ sum_by g l + g w
  sum_by-changed [] j v w e = absurd (some-ne-none v (sym e))
  sum_by-changed (x ∷ xs) zero v w e = omega (arith, ap g (some-injective x v e), sum_by-cons g w xs, sum_by-cons g x xs)
  sum_by-changed (x ∷ xs) (suc j) v w e = omega (arith, sum_by-changed xs j v w e, sum_by-cons g x (set xs j w), sum_by-cons g x xs)

  -- one term is at most the sum
  pub term_le : (l : List A) (j : ℕ) (v : A) → get_elem? l j ≡ some v → g v ≤ sum_by g l
  term_le [] j v e = absurd (some-ne-none v (sym e))
  term_le (x ∷ xs) zero v e = omega (arith, ap g (some-injective x v e), sum_by-cons g x xs)
  term_le (x ∷ xs) (suc j) v e = omega (arith, term_le xs j v e, sum_by-cons g x xs)

  -- two terms of different places come to at most the sum
  pub terms_le : (l : List A) (j k : ℕ) (v u : A) → k ≢ j → get_elem? l j ≡ some v → get_elem? l k ≡ some u → g v + g u ≤ sum_by g l
  terms_le [] j k v u n e d = absurd (some-ne-none v (sym e))
  terms_le (x ∷ xs) zero zero v u n e d = absurd (n refl)
  terms_le (x ∷ xs) zero (suc k) v u n e d = omega (arith, ap g (some-injective x v e), term_le xs k u d, sum_by-cons g x xs)
  terms_le (x ∷ xs) (suc j) zero v u n e d = omega (arith, ap g (some-injective x u d), term_le xs j v e, sum_by-cons g x xs)
  terms_le (x ∷ xs) (suc j) (suc k) v u n e d = omega (arith, terms_le xs j k v u (λ h. n (ap suc h)) e d, sum_by-cons g x xs)

  -- two elements change
  pub sum_by-joined : (l : List A) (id other : ℕ) (v u b e : A) → get_elem? l id ≡ some v → other ≢ id → get_elem? l other ≡ some u → sum_by g (set (set l id b) other e) + g v + g u ≡ sum_by g l + g b + g e
  sum_by-joined l id other v u b e at apart them = omega (arith, sum_by-changed l id v b at, sum_by-changed (set l id b) other u e (set_else l id other b apart ∙ them))

  -- an element more
  pub sum_by-more : (l : List A) (a : A) → sum_by g (l ++ a ∷ []) ≡ sum_by g l + g a
  sum_by-more l a = omega (arith, sum_by-append g l (a ∷ []))

  pub sum_by-none : (l : List A) → Each (λ x. g x ≡ 0) l → sum_by g l ≡ 0
  sum_by-none [] h = refl
  sum_by-none (x ∷ xs) h = omega (arith, h 0 x refl, sum_by-none xs (λ j y e. h (suc j) y e), sum_by-cons g x xs)

-- a sum over a mapped list
pub sum_by-map : {A B : Type 0} (g : B → ℕ) (f : A → B) (l : List A) → sum_by g (map f l) ≡ sum_by (λ x. g (f x)) l
sum_by-map {A} g f [] = refl
sum_by-map {A} g f (x ∷ xs) = omega (arith, sum_by-map g f xs, sum_by-cons g (f x) (map f xs), sum_by-cons (λ (y : A). g (f y)) x xs)

module _ {A : Type 0} (P : A → Type 0) where
  -- what holds of each element and of a new one holds after one was replaced
  pub Each-set : (l : List A) (i : ℕ) (a : A) → P a → Each P l → Each P (set l i a)
  Each-set l i a p all j x e = ⊎_elim (λ t. subst P t.1 p) (λ t. all j x t.1) (at_set l i j a x e)

  -- and after the new one was put at the end
  pub Each-push : (l : List A) (a : A) → P a → Each P l → Each P (l ++ a ∷ [])
  Each-push l a p all j x e = ⊎_elim (λ t. all j x t) (λ t. subst P t p) (at_snoc l a x j e)

  pub Each-weaker : (Q : A → Type 0) → ((x : A) → P x → Q x) → (l : List A) → Each P l → Each Q l
  Each-weaker Q f l all j x e = f x (all j x e)

-- the element that an element of a mapped list comes from
pub from_map : {A B : Type 0} (f : A → B) (l : List A) (j : ℕ) (x : B) → get_elem? (map f l) j ≡ some x → (u : A) × (get_elem? l j ≡ some u) × (f u ≡ x)
from_map f [] j x e = absurd (some-ne-none x (sym e))
from_map f (v ∷ vs) zero x e = (v, refl, some-injective (f v) x e)
from_map f (v ∷ vs) (suc j) x e = from_map f vs j x e

-- a function over the numbers below a bound
pub range_same : {A : Type 0} (f g : ℕ → A) (a n : ℕ) → ((i : ℕ) → i < a + n → f i ≡ g i) → map f (range_with_len a n) ≡ map g (range_with_len a n)
range_same f g a zero h = refl
range_same f g a (suc n) h = ap (λ x. x ∷ map f (range_with_len (a + 1) n)) (h a (omega arith)) ∙ ap (λ l. g a ∷ l) (range_same f g (a + 1) n (λ i l. h i (omega arith)))
