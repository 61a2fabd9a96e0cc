-- SPDX-License-Identifier: GPL-2.0-only
-- Sums over lists that change at one place, and what holds of each element.
use Rattle.shr_seats.proofs.Common.{◌≡◌, ℕ, zero, suc, ◌+◌, ◌*◌, ◌<◌, ◌≤◌, ◌≢◌, Bool, List, [], ◌∷◌, ◌++◌, length, set, sym, refl, ap, subst, ◌∙◌, ⊎_elim, arith, cond, eq-eqb, ne_eqb, append-nil, dite, ℕ_discrete, some, some-injective, some-ne-none, get_elem?, at_set, at_snoc, set_else, Each, total, append_assoc, Begins, only, times, without}

module _ {A : Type 0} (g : A → ℕ) where
  pub total-append : (l m : List A) → total g (l ++ m) ≡ total g l + total g m
  total-append [] m = omega arith
  total-append (x ∷ xs) m = omega (arith, total-append xs m)

  -- what the sum loses and gains when one element is replaced
  pub total-set : (l : List A) (j : ℕ) (v w : A) → get_elem? l j ≡ some v → total g (set l j w) + g v ≡ total g l + g w
  total-set [] j v w e = absurd (some-ne-none v (sym e))
  total-set (x ∷ xs) zero v w e = omega (arith, ap g (some-injective x v e))
  total-set (x ∷ xs) (suc j) v w e = omega (arith, total-set xs j v w e)

  -- one term is at most the sum
  pub term_le : (l : List A) (j : ℕ) (v : A) → get_elem? l j ≡ some v → g v ≤ total g l
  term_le [] j v e = absurd (some-ne-none v (sym e))
  term_le (x ∷ xs) zero v e = omega (arith, ap g (some-injective x v e))
  term_le (x ∷ xs) (suc j) v e = omega (arith, term_le xs j v e)

  -- two terms of different places come to at most the sum
  pub terms_le : (l : List A) (j k : ℕ) (v u : A) → k ≢ j → get_elem? l j ≡ some v → get_elem? l k ≡ some u → g v + g u ≤ total g l
  terms_le [] j k v u n e d = absurd (some-ne-none v (sym e))
  terms_le (x ∷ xs) zero zero v u n e d = absurd (n refl)
  terms_le (x ∷ xs) zero (suc k) v u n e d = omega (arith, ap g (some-injective x v e), term_le xs k u d)
  terms_le (x ∷ xs) (suc j) zero v u n e d = omega (arith, ap g (some-injective x u d), term_le xs j v e)
  terms_le (x ∷ xs) (suc j) (suc k) v u n e d = omega (arith, terms_le xs j k v u (λ h. n (ap suc h)) e d)

  -- the sum stays where the element weighs the same
  pub total_same : (l : List A) (j : ℕ) (v w : A) → get_elem? l j ≡ some v → g w ≡ g v → total g (set l j w) ≡ total g l
  total_same l j v w e h = omega (arith, total-set l j v w e)

  -- a sum of terms that are at most b
  pub total_le : (b : ℕ) → ((x : A) → g x ≤ b) → (l : List A) → total g l ≤ b * length l
  total_le b h [] = omega arith
  total_le b h (x ∷ xs) = omega (arith, h x, total_le b h xs)

  pub total_zero : (l : List A) → Each (λ x. g x ≡ 0) l → total g l ≡ 0
  total_zero [] h = refl
  total_zero (x ∷ xs) h = omega (arith, h 0 x refl, total_zero xs (λ j y e. h (suc j) y e))

  -- the sum where two elements change
  pub total_join : (l : List A) (id other : ℕ) (v u b e : A) → get_elem? l id ≡ some v → other ≢ id → get_elem? l other ≡ some u → total g (set (set l id b) other e) + g v + g u ≡ total g l + g b + g e
  total_join l id other v u b e at apart them = omega (arith, total-set l id v b at, total-set (set l id b) other u e (set_else l id other b apart ∙ them))

  -- some element weighs something where the sum does
  pub some_term : (l : List A) → 0 < total g l → (j : ℕ) × (x : A) × (get_elem? l j ≡ some x) × (0 < g x)
  some_term [] h = absurd (omega arith)
  some_term (x ∷ xs) h = dite (ℕ_discrete (g x) 0) (λ z. let t = some_term xs (omega (arith, h, z)) in (suc t.0, t.1, t.2, t.3)) (λ n. (0, x, refl, omega (arith, n)))

pub total_both : {A : Type 0} (f g : A → ℕ) (l : List A) → total (λ x. f x + g x) l ≡ total f l + total g l
total_both f g [] = refl
total_both f g (x ∷ xs) = omega (arith, total_both f g xs)

module _ {A : Type 0} (P : A → Type 0) where
  -- what holds of each element and of a new one holds after one was replaced
  pub Each-set : (l : List A) (i : ℕ) (a : A) → P a → Each P l → Each P (set l i a)
  Each-set l i a p all j x e = ⊎_elim (λ t. subst P t.1 p) (λ t. all j x t.1) (at_set l i j a x e)

  -- and after the new one was put at the end
  pub Each-push : (l : List A) (a : A) → P a → Each P l → Each P (l ++ a ∷ [])
  Each-push l a p all j x e = ⊎_elim (λ t. all j x t) (λ t. subst P t p) (at_snoc l a x j e)

  pub Each-append : (l m : List A) → Each P l → Each P m → Each P (l ++ m)
  Each-append [] m a b j y e = b j y e
  Each-append (x ∷ xs) m a b zero y e = a zero y e
  Each-append (x ∷ xs) m a b (suc j) y e = Each-append xs m (λ i z d. a (suc i) z d) b j y e

  pub Each-none : Each P []
  Each-none j x e = absurd (some-ne-none x (sym e))

  pub Each-cons : (a : A) (l : List A) → P a → Each P l → Each P (a ∷ l)
  Each-cons a l p all zero x e = subst P (some-injective a x e) p
  Each-cons a l p all (suc j) x e = all j x e

  -- of the only element
  pub Each-one : (a : A) → P a → Each P (a ∷ [])
  Each-one a p = Each-cons a [] p Each-none

  -- what holds of each holds after two were replaced, as a join replaces two views
  pub Each-join : (l : List A) (id other : ℕ) (b e : A) → P b → P e → Each P l → Each P (set (set l id b) other e)
  Each-join l id other b e p q all = Each-set (set l id b) other e q (Each-set l id b p all)

pub Each-weaker : {A : Type 0} (P Q : A → Type 0) → ((x : A) → P x → Q x) → (l : List A) → Each P l → Each Q l
Each-weaker P Q h l all j x e = h x (all j x e)

pub only_yes : (k x : ℕ) → x ≡ k → only k x ≡ 1
only_yes k x e = ap (λ b. cond b 1 0) (eq-eqb x k e)

pub only_no : (k x : ℕ) → x ≢ k → only k x ≡ 0
only_no k x n = ap (λ b. cond b 1 0) (ne_eqb x k n)

pub times-push_same : (k : ℕ) (xs : List ℕ) → times k (xs ++ k ∷ []) ≡ times k xs + 1
times-push_same k xs = omega (arith, total-append (only k) xs (k ∷ []), only_yes k k refl)

pub times-push_other : (k j : ℕ) (xs : List ℕ) → j ≢ k → times k (xs ++ j ∷ []) ≡ times k xs
times-push_other k j xs n = omega (arith, total-append (only k) xs (j ∷ []), only_no k j n)

pub times-push_le : (k j : ℕ) (xs : List ℕ) → times k xs ≤ times k (xs ++ j ∷ [])
times-push_le k j xs = omega (arith, total-append (only k) xs (j ∷ []))

pub times-without_same : (k : ℕ) (xs : List ℕ) → times k (without k xs) ≡ 0
times-without_same k [] = refl
times-without_same k (x ∷ xs) = let F : Bool → Type 0 = λ b. times k (cond b (without k xs) (x ∷ without k xs)) ≡ 0 in
    dite (ℕ_discrete x k) (λ e. subst F (sym (eq-eqb x k e)) (times-without_same k xs)) (λ n. subst F (sym (ne_eqb x k n)) (omega (arith, only_no k x n, times-without_same k xs)))

pub times-without_other : (k j : ℕ) (xs : List ℕ) → k ≢ j → times k (without j xs) ≡ times k xs
times-without_other k j [] n = refl
times-without_other k j (x ∷ xs) n = let F : Bool → Type 0 = λ b. times k (cond b (without j xs) (x ∷ without j xs)) ≡ times k (x ∷ xs) in
    dite (ℕ_discrete x j) (λ e. subst F (sym (eq-eqb x j e)) (omega (arith, only_no k x (λ d. n (sym d ∙ e)), times-without_other k j xs n))) (λ m. subst F (sym (ne_eqb x j m)) (omega (arith, times-without_other k j xs n)))

-- a list begins with itself
pub begins_all : {A : Type 0} (xs : List A) → Begins xs xs
begins_all xs = ([], sym (append-nil xs))

pub begins_push : {A : Type 0} (xs : List A) (x : A) → Begins xs (xs ++ x ∷ [])
begins_push xs x = (x ∷ [], refl)

pub begins_more : {A : Type 0} (xs ys zs : List A) → Begins xs ys → Begins ys zs → Begins xs zs
begins_more {A} xs ys zs a b = (a.0 ++ b.0, b.1 ∙ (ap (λ (l : List A). l ++ b.0) a.1 ∙ append_assoc xs a.0 b.0))

-- an element stays where a list goes on
pub at_begins : {A : Type 0} (xs ys : List A) (n : ℕ) (x : A) → Begins xs ys → get_elem? xs n ≡ some x → get_elem? ys n ≡ some x
at_begins {A} xs ys n x b e = subst (λ (l : List A). get_elem? l n ≡ some x) (sym b.1) (there xs b.0 n x e) where
  there : (l m : List A) (n : ℕ) (x : A) → get_elem? l n ≡ some x → get_elem? (l ++ m) n ≡ some x
  there [] m n x e = absurd (some-ne-none x (sym e))
  there (y ∷ l) m zero x e = e
  there (y ∷ l) m (suc n) x e = there l m n x e
