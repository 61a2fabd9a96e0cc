-- SPDX-License-Identifier: GPL-2.0-only
-- Sums over passes, and lists that weigh nothing.
use Rattle.shr_pool.proofs.Common.{◌≡◌, ℕ, zero, suc, ◌+◌, ◌<◌, ◌≤◌, List, [], ◌∷◌, length, sym, refl, ap, arith, sum_by, some, some-injective, some-ne-none, dite, ℕ_discrete, get_elem?, Each, total}
use Rattle.std.proofs.lemmas.List.Sums.{sum_by-cons}

-- a list in which nothing weighs anything, where each element weighs 1, is empty
pub none_there : {A : Type 0} (l : List A) → total (λ _. 1) l ≡ 0 → l ≡ []
none_there [] e = refl
none_there (x ∷ xs) e = absurd (omega arith)

-- where each element weighs 1, a list weighs its length
pub total_one : {A : Type 0} (l : List A) → total (λ _. 1) l ≡ length l
total_one [] = refl
total_one (x ∷ xs) = omega (arith, total_one xs)

module _ {A : Type 0} (f g : A → ℕ) where
  pub sum_by-le : (l : List A) → Each (λ x. f x ≤ g x) l → sum_by f l ≤ sum_by g l
  sum_by-le [] all = omega arith
  sum_by-le (x ∷ xs) all = omega (arith, sum_by-cons f x xs, sum_by-cons g x xs, all 0 x refl, sum_by-le xs (λ j y e. all (suc j) y e))

  pub sum_by-lt : (l : List A) (j : ℕ) (x : A) → get_elem? l j ≡ some x → f x < g x → Each (λ x. f x ≤ g x) l → sum_by f l < sum_by g l
  sum_by-lt [] j x e less all = absurd (some-ne-none x (sym e))
  sum_by-lt (y ∷ ys) zero x e less all = omega (arith, sum_by-cons f y ys, sum_by-cons g y ys, ap f (some-injective y x e), ap g (some-injective y x e), sum_by-le ys (λ j z d. all (suc j) z d))
  sum_by-lt (y ∷ ys) (suc j) x e less all = omega (arith, sum_by-cons f y ys, sum_by-cons g y ys, all 0 y refl, sum_by-lt ys j x e less (λ i z d. all (suc i) z d))

  pub sum_by-both : (l : List A) → sum_by (λ x. f x + g x) l ≡ sum_by f l + sum_by g l
  sum_by-both [] = refl
  sum_by-both (x ∷ xs) = omega (arith, sum_by-cons f x xs, sum_by-cons g x xs, sum_by-cons (λ y. f y + g y) x xs, sum_by-both xs)

-- some element weighs something where the sum does
pub some_term : {A : Type 0} (g : A → ℕ) (l : List A) → 0 < sum_by g l → (j : ℕ) × (x : A) × (get_elem? l j ≡ some x) × (0 < g x)
some_term g [] h = absurd (omega arith)
some_term g (x ∷ xs) h = dite (ℕ_discrete (g x) 0) (λ z. let t = some_term g xs (omega (arith, h, z, sum_by-cons g x xs)) in (suc t.0, t.1, t.2, t.3)) (λ n. (0, x, refl, omega (arith, n)))
