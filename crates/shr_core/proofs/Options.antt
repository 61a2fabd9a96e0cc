-- SPDX-License-Identifier: GPL-2.0-only
-- What an Option is, and its weight in a sum: 1 where it is Some of one number, and else 0.
use Rattle.shr_core.proofs.Common.{◌≡◌, ℕ, ◌<◌, refl, ap, ◌∙◌, arith, sym, true, false, eq-eqb, ne_eqb, cond, ◌≤◌, Option, Some, None, none-some, same_Some, dite, ℕ_discrete, only_yes, only_no, only_some, is_some_of}

-- it is Some of k or it is not
pub some_or_not : (k : ℕ) (o : Option ℕ) → Dec (o ≡ Some k)
some_or_not k None = no (none-some k)
some_or_not k (Some x) = dite (ℕ_discrete x k) (λ e. yes (ap (λ (y : ℕ). Some y) e)) (λ n. no (λ e. n (same_Some x k e)))

-- None and Some at once
pub not_some : (k : ℕ) (o : Option ℕ) → o ≡ None → o ≡ Some k → ⊥
not_some k o none some = none-some k (sym none ∙ some)

-- two numbers of one Option
pub one_some : (j k : ℕ) (o : Option ℕ) → o ≡ Some j → o ≡ Some k → j ≡ k
one_some j k o e f = same_Some j k (sym e ∙ f)

-- the test tells that it is Some of its number
pub is_some_yes : (k : ℕ) (o : Option ℕ) → o ≡ Some k → is_some_of k o ≡ true
is_some_yes k o e = ap (is_some_of k) e ∙ eq-eqb k k refl

-- and that it is not
pub is_some_no : (k : ℕ) (o : Option ℕ) → (o ≡ Some k → ⊥) → is_some_of k o ≡ false
is_some_no k None n = refl
is_some_no k (Some x) n = ne_eqb x k (λ e. n (ap (λ (y : ℕ). Some y) e))

-- what passes it is Some of that number
pub is_some_is : (k : ℕ) (o : Option ℕ) → is_some_of k o ≡ true → o ≡ Some k
is_some_is k o t = dite (some_or_not k o) (λ e. e) (λ n. absurd (false_true (sym (is_some_no k o n) ∙ t))) where
  false_true : false ≡ true → ⊥
  false_true e = cc

-- it weighs 1 at its own number
pub only_some_yes : (k : ℕ) (o : Option ℕ) → o ≡ Some k → only_some k o ≡ 1
only_some_yes k o e = ap (only_some k) e ∙ only_yes k k refl

-- and nothing at another
pub only_some_no : (k : ℕ) (o : Option ℕ) → (o ≡ Some k → ⊥) → only_some k o ≡ 0
only_some_no k None n = refl
only_some_no k (Some x) n = only_no k x (λ e. n (ap (λ (y : ℕ). Some y) e))

-- it weighs 1 at most
pub only_some_le : (k : ℕ) (o : Option ℕ) → only_some k o ≤ 1
only_some_le k o = elim (is_some_of k o) as (λ b. cond b 1 0 ≤ 1) [ true ↦ omega arith | false ↦ omega arith ]

-- None weighs nothing
pub only_none : (k : ℕ) (o : Option ℕ) → o ≡ None → only_some k o ≡ 0
only_none k o e = ap (only_some k) e

-- what weighs something is Some of it
pub only_some_is : (k : ℕ) (o : Option ℕ) → 0 < only_some k o → o ≡ Some k
only_some_is k o h = dite (some_or_not k o) (λ e. e) (λ n. absurd (omega (arith, h, only_some_no k o n)))
