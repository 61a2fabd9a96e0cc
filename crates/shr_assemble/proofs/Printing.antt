-- SPDX-License-Identifier: GPL-2.0-only
-- Which part is the last that has an answer.
use Rattle.shr_assemble.proofs.Common.{◌≡◌, ℕ, zero, suc, ◌+◌, ◌<◌, ◌≤◌, ⊎_elim, List, [], ◌∷◌, length, take, refl, sym, ap, subst, ◌∙◌, arith, slice_get, Some, cases_order, length-take-le, slice_get_within, WorkerPart, IsLastAnswered, take_below, some_injective}

-- what stands in a beginning stands in the whole
pub get_taken : {A : Type 0} (xs : List A) (n i : ℕ) → i < n → slice_get (take n xs) i ≡ slice_get xs i
get_taken [] zero i lt = refl
get_taken [] (suc n) i lt = refl
get_taken (x ∷ xs) zero i lt = absurd (omega (arith, lt))
get_taken (x ∷ xs) (suc n) zero lt = refl
get_taken (x ∷ xs) (suc n) (suc i) lt = get_taken xs n i (omega (arith, lt))

module _ (parts : List WorkerPart) (n : ℕ) (p : WorkerPart) (at : slice_get parts n ≡ Some p) where
  one_more : length (take (n + 1) parts) ≡ n + 1
  one_more = let lt = slice_get_within parts n p at in length-take-le (n + 1) parts (omega (arith, lt))

  here : slice_get (take (n + 1) parts) n ≡ Some p
  here = get_taken parts (n + 1) n (omega arith) ∙ at

  before : (i : ℕ) → i < n → slice_get (take (n + 1) parts) i ≡ slice_get (take n parts) i
  before i lt = get_taken parts (n + 1) i (omega (arith, lt)) ∙ sym (get_taken parts n i lt)

  -- the next part has an answer
  pub next_answered : 0 < length p.answers.items → IsLastAnswered (take (n + 1) parts) (n + 1)
  next_answered some = record {
    within = let e = one_more in omega (arith, e);
    after = λ i q le e. absurd (let lt = take_below parts (n + 1) i q e in omega (arith, lt, le));
    answered = λ i q is e. let same : i ≡ n = omega (arith, is) in
        subst (λ (z : WorkerPart). 0 < length z.answers.items) (some_injective p q (sym here ∙ (ap (slice_get (take (n + 1) parts)) (sym same) ∙ e))) some;
  }

  -- or none
  pub next_silent : (many : ℕ) → IsLastAnswered (take n parts) many → p.answers.items ≡ [] → IsLastAnswered (take (n + 1) parts) many
  next_silent many last none = record {
    within = let e = one_more in let le = last.within in let few = short parts n in omega (arith, e, le, few);
    after = λ i q le e. ⊎_elim
        (λ same. subst (λ (z : WorkerPart). z.answers.items ≡ []) (some_injective p q (sym here ∙ (ap (slice_get (take (n + 1) parts)) (sym same) ∙ e))) none)
        (⊎_elim (λ lt. last.after i q le (sym (before i lt) ∙ e)) (λ gt. absurd (let lt = take_below parts (n + 1) i q e in omega (arith, lt, gt))))
        (cases_order i n);
    answered = λ i q is e. let le = last.within in let few = short parts n in last.answered i q is (sym (before i (omega (arith, is, le, few))) ∙ e);
  } where
    short : (xs : List WorkerPart) (m : ℕ) → length (take m xs) ≤ m
    short [] zero = omega arith
    short [] (suc m) = omega arith
    short (x ∷ xs) zero = omega arith
    short (x ∷ xs) (suc m) = let h = short xs m in omega (arith, h)
