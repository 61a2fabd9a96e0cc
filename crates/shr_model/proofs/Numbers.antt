-- SPDX-License-Identifier: GPL-2.0-only
-- Lemmas on numbers that several crates cite.
use Rattle.shr_model.proofs.Common.{◌≡◌, ℕ, ◌+◌, eqb, cond, arith, suc, zero, List, ◌∷◌, ◌++◌, ap, ◌∙◌, not, nat_tests, min, ◌==◌, ◌&&◌, range_with_len, ltb, ◌<◌, ◌≢◌, false}
use Rattle.std.specs.Ordering.{nat_cmp, is_eq, is_lt}

pub below_more : (n k m : ℕ) → m ≡ k → ◌≡◌ {A = ℕ} (cond (ltb n (k + 1)) 1 0) (cond (ltb n k) 1 0 + cond (eqb m n) 1 0)
below_more n k m e = grind (arith, nat_tests)

pub none_below : (n : ℕ) → ◌≡◌ {A = ℕ} (cond (ltb n 0) 1 0) 0
none_below n = grind (arith, nat_tests)

pub after_suc : (k : ℕ) → suc (k + 1) ≡ suc k + 1
after_suc k = omega arith

pub kept_sum : (a b m : ℕ) → min (min a m + min b m) m ≡ min (a + b) m
kept_sum a b m = omega arith

pub range_more : (a n m : ℕ) → range_with_len a (n + m) ≡ range_with_len a n ++ range_with_len (a + n) m
range_more a zero m = ap (range_with_len a) (let e : 0 + m ≡ m = omega arith in e) ∙ ap (λ (k : ℕ). range_with_len k m) (let e : a ≡ a + 0 = omega arith in e)
range_more a (suc n) m =
    ap (range_with_len a) (let e : suc n + m ≡ suc (n + m) = omega arith in e)
    ∙ ap (λ (ks : List ℕ). a ∷ ks) (range_more (a + 1) n m ∙ ap (λ (k : ℕ). range_with_len (a + 1) n ++ range_with_len k m) (let e : a + 1 + n ≡ a + suc n = omega arith in e))

pub tie : (a b : ℕ) → (not (is_lt (nat_cmp a b)) && not (is_lt (nat_cmp b a))) ≡ (b == a)
tie a b = grind (arith, nat_tests)

pub zero_plus : (n : ℕ) → n ≡ 0 + n
zero_plus n = omega arith

pub later : (level group : ℕ) → level < group → ◌≡◌ {A = ℕ} (cond (ltb level group) 1 0) 1
later level group lt = grind (arith, nat_tests)

pub apart : (a b : ℕ) → a ≢ b → is_eq (nat_cmp a b) ≡ false
apart a b ne = grind (arith, nat_tests)
