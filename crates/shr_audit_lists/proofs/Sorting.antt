-- SPDX-License-Identifier: GPL-2.0-only
-- Sorted numbers with the same sums are the same, and so are sorted serials with the same keys.
use Rattle.shr_audit_lists.proofs.SerialsCommon.{◌≡◌, ◌≢◌, ℕ, zero, suc, ◌+◌, ◌<◌, ◌≤◌, Bool, true, false, cond, List, [], ◌∷◌, length, get_or, map, refl, sym, ap, subst, ◌∙◌, inl, inr, arith, sum_by, IsPermutation, Decides, IsNonDecreasingBy, cases_Bool, sum_by-cons, sum_by-IsPermutation, IsPermutation-sym, Serial, AreDistinct, serial_key, ◌⊎◌, nat_lt, ltb-true, ltb-false, lt-ltb, IsPermutation-map, IsPermutation-trans}
use Rattle.shr_audit_lists.proofs.Distinct.{distinct_again, distinct_before}

-- no number is below this one
unfoldable IsLeast : ℕ → List ℕ → Type 0
IsLeast n [] = Unit {0}
IsLeast n (m ∷ ms) = (n ≤ m) × IsLeast n ms

unfoldable Rises : List ℕ → Type 0
Rises [] = Unit {0}
Rises (n ∷ ns) = IsLeast n ns × Rises ns

-- how many numbers are below this one
abbrev below : ℕ → ℕ → ℕ
below n m = cond (nat_lt m n) 1 0

none_below : (n : ℕ) (ms : List ℕ) → IsLeast n ms → sum_by (below n) ms ≡ 0
unfolding IsLeast
none_below n [] h = refl
none_below n (m ∷ ms) h =
    let a = sum_by-cons (below n) m ms in
    let b = none_below n ms h.1 in
    let c : below n m ≡ 0 = off (cases_Bool (nat_lt m n)) in
    omega arith
  where
    off : (nat_lt m n ≡ true) ⊎ (nat_lt m n ≡ false) → below n m ≡ 0
    off (inl e) = let lt = ltb-true m n e in let le = h.0 in absurd (omega arith)
    off (inr e) = rw e refl

-- numbers of which none is below this one begin at or above it
head_least : (n m : ℕ) (ms : List ℕ) → sum_by (below n) (m ∷ ms) ≡ 0 → n ≤ m
head_least n m ms none = by (cases_Bool (nat_lt m n))
  where
    by : (nat_lt m n ≡ true) ⊎ (nat_lt m n ≡ false) → n ≤ m
    by (inl e) = let a = sum_by-cons (below n) m ms in let b : below n m ≡ 1 = rw e refl in absurd (omega arith)
    by (inr e) = ltb-false m n e

itself_least : (n : ℕ) (ns : List ℕ) → Rises (n ∷ ns) → IsLeast n (n ∷ ns)
unfolding IsLeast Rises
itself_least n ns r = (omega arith, r.0)

-- rising numbers with the same sums are the same
same_numbers : (xs ys : List ℕ) → Rises xs → Rises ys → ((f : ℕ → ℕ) → sum_by f xs ≡ sum_by f ys) → xs ≡ ys
unfolding Rises
same_numbers [] [] r s h = refl
same_numbers [] (y ∷ ys) r s h = let a = sum_by-cons (λ n. 1) y ys in let b = h (λ n. 1) in absurd (omega arith)
same_numbers (x ∷ xs) [] r s h = let a = sum_by-cons (λ n. 1) x xs in let b = h (λ n. 1) in absurd (omega arith)
same_numbers (x ∷ xs) (y ∷ ys) r s h =
    let up : y ≤ x = head_least y x xs (h (below y) ∙ none_below y (y ∷ ys) (itself_least y ys s)) in
    let down : x ≤ y = head_least x y ys (sym (h (below x)) ∙ none_below x (x ∷ xs) (itself_least x xs r)) in
    let first : x ≡ y = omega arith in
    let rest : xs ≡ ys = same_numbers xs ys r.1 s.1 (λ f. let a = sum_by-cons f x xs in let b = sum_by-cons f y ys in let c = h f in let d = ap f first in omega arith) in
    λ i. first i ∷ rest i

-- ---- serials

keys_least : (n : ℕ) (xs : List Serial) → ((j : ℕ) (d : Serial) → j < length xs → n ≤ serial_key (get_or xs j d)) → IsLeast n (map serial_key xs)
unfolding IsLeast
keys_least n [] h = tt
keys_least n (x ∷ xs) h = (h 0 x (omega arith), keys_least n xs (λ j d lt. h (suc j) d (omega (arith, lt))))

keys_rise : (xs : List Serial) → IsNonDecreasingBy serial_key xs → Rises (map serial_key xs)
unfolding Rises
keys_rise [] up = tt
keys_rise (x ∷ xs) up = (
  keys_least (serial_key x) xs (λ j d lt. up 0 (suc j) d (omega arith) (omega (arith, lt))),
  keys_rise xs (λ i j d le lt. up (suc i) (suc j) d (omega (arith, le)) (omega (arith, lt))),
)

pub same_keys : (xs ys : List Serial) → IsNonDecreasingBy serial_key xs → IsNonDecreasingBy serial_key ys → IsPermutation xs ys → map serial_key xs ≡ map serial_key ys
same_keys xs ys up down p = same_numbers (map serial_key xs) (map serial_key ys) (keys_rise xs up) (keys_rise ys down)
    (λ f. sym (sum_by-IsPermutation f (map serial_key xs) (map serial_key ys) (IsPermutation-map serial_key xs ys p)))

-- lists of the same length with the same items
pub same_lists : (xs ys : List Serial) → length xs ≡ length ys → ((n : ℕ) (d : Serial) → n < length xs → get_or xs n d ≡ get_or ys n d) → xs ≡ ys
same_lists [] [] e h = refl
same_lists [] (y ∷ ys) e h = absurd (omega arith)
same_lists (x ∷ xs) [] e h = absurd (omega arith)
same_lists (x ∷ xs) (y ∷ ys) e h =
    let first : x ≡ y = h 0 x (omega arith) in
    let rest : xs ≡ ys = same_lists xs ys (omega arith) (λ n d lt. h (suc n) d (omega (arith, lt))) in
    λ i. first i ∷ rest i

key_at : (xs : List Serial) (n : ℕ) (d : Serial) → n < length xs → get_or (map serial_key xs) n 0 ≡ serial_key (get_or xs n d)
key_at [] n d lt = absurd (omega arith)
key_at (x ∷ xs) zero d lt = refl
key_at (x ∷ xs) (suc n) d lt = key_at xs n d (omega arith)

-- where the keys are the same, so is each key
pub keys_at : (xs ys : List Serial) (n : ℕ) (d e : Serial) → n < length xs → n < length ys → map serial_key xs ≡ map serial_key ys → serial_key (get_or xs n d) ≡ serial_key (get_or ys n e)
keys_at xs ys n d e lt lt' same = sym (key_at xs n d lt) ∙ (ap (λ (ns : List ℕ). get_or ns n 0) same ∙ key_at ys n e lt')

-- ---- the sorted lists, and those before

module _ (added parts ups downs : List Serial) (p : IsPermutation added ups) (q : IsPermutation parts downs) where
  pub not_apart : Decides false (AreDistinct ups) → Decides false (AreDistinct added × IsPermutation added parts)
  not_apart d = (λ t. absurd cc, λ h. d.1 (distinct_again added ups p h.0))

  pub bag_decided : Decides true (AreDistinct ups) → IsNonDecreasingBy serial_key ups → IsNonDecreasingBy serial_key downs → (b : Bool) → (b ≡ true → ups ≡ downs) → (b ≡ false → map serial_key ups ≢ map serial_key downs)
      → Decides b (AreDistinct added × IsPermutation added parts)
  bag_decided d up down b same differ = (λ t. (distinct_before added ups p (d.0 refl), joined (same t)), λ h. by (cases_Bool b) h.1)
    where
      joined : ups ≡ downs → IsPermutation added parts
      joined e = IsPermutation-trans added downs parts (subst (λ (xs : List Serial). IsPermutation added xs) e p) (IsPermutation-sym parts downs q)

      by : (b ≡ true) ⊎ (b ≡ false) → IsPermutation added parts → b ≡ true
      by (inl t) h = t
      by (inr f) h = absurd (differ f (same_keys ups downs up down (IsPermutation-trans ups added downs (IsPermutation-sym added ups p) (IsPermutation-trans added parts downs h q))))
