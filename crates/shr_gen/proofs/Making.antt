-- SPDX-License-Identifier: GPL-2.0-only
-- Lists that are made element by element.
use Rattle.shr_gen.proofs.Common.{◌≡◌, ◌∙◌, ◌++◌, ◌∷◌, [], List, ℕ, zero, suc, ◌+◌, ◌*◌, ap, sym, arith, map, range_with_len, drawn_after, map-range_with_len_more, next_draw}

-- one more element, which is f's at the next number
pub made_more : {A : Type 0} (f : ℕ → A) (n : ℕ) (before after : List A) (x : A) → before ≡ map f (range_with_len 0 n) → x ≡ f n → after ≡ before ++ x ∷ [] → after ≡ map f (range_with_len 0 (n + 1))
made_more {A} f n before after x so_far is added = added ∙ (ap (λ (l : List A). l ++ x ∷ []) so_far ∙ (ap (λ (y : A). map f (range_with_len 0 n) ++ y ∷ []) is ∙ sym (map-range_with_len_more f 0 n n (omega arith))))

-- one more draw
pub one_more_drawn : (x n before after : ℕ) → before ≡ drawn_after x n → after ≡ next_draw before → after ≡ drawn_after x (n + 1)
one_more_drawn x n before after so_far next = next ∙ (ap next_draw so_far ∙ ap (drawn_after x) (let e : suc n ≡ n + 1 = omega arith in e))

drawn_sum : (x n m : ℕ) → drawn_after (drawn_after x n) m ≡ drawn_after x (m + n)
drawn_sum x n zero = ap (drawn_after x) (let e : n ≡ 0 + n = omega arith in e)
drawn_sum x n (suc m) = ap next_draw (drawn_sum x n m) ∙ ap (drawn_after x) (let e : suc (m + n) ≡ suc m + n = omega arith in e)

-- the draws of one more worker
pub drawn_on : (x done n workers : ℕ) → n + done ≡ workers * n → drawn_after (drawn_after x done) n ≡ drawn_after x (workers * n)
drawn_on x done n workers all = drawn_sum x done n ∙ ap (drawn_after x) all
