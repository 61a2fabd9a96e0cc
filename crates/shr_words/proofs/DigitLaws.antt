-- SPDX-License-Identifier: GPL-2.0-only
-- The digits of a number.
use Rattle.shr_words.proofs.Common.{◌≡◌, ℕ, zero, suc, ◌+◌, ◌-◌, ◌<◌, ◌≤◌, Bool, true, false, ◌&&◌, cond, List, [], ◌∷◌, length, take, drop, get_or, Ok, refl, arith, nat_lt, take_rest, min, nat_le, ◌==◌, list_all, digits_value, nat_tests, Word, N, Number, is_digit, and_true, ◌*◌, IsDigit}
use Rattle.std.specs.Char.{digit_value}
use Rattle.std.proofs.lemmas.Int.Digits.{digits_value_more}
use Rattle.shr_model.specs.Pieces.{cut, pieces}
use Rattle.shr_words.specs.WordReading.{is_numeral, number_spelled, taken, item_at}

within : (b : ℕ) → is_digit b ≡ true → (48 ≤ b) × (b ≤ 57)
within b e = grind (arith, nat_tests)

-- each byte of digits is one of 0 to 9
pub digit_at : (xs : List ℕ) (i : ℕ) → list_all is_digit xs ≡ true → i < length xs → (48 ≤ get_or xs i 0) × (get_or xs i 0 ≤ 57)
digit_at [] i e lt = absurd (omega arith)
digit_at (x ∷ xs) zero e lt = within x (and_true (is_digit x) (list_all is_digit xs) e).0
digit_at (x ∷ xs) (suc i) e lt = digit_at xs i (and_true (is_digit x) (list_all is_digit xs) e).1 (omega arith)

value_is : (b : ℕ) → 48 ≤ b → b ≤ 57 → digit_value b ≡ b - 48
value_is b low high = grind (arith, nat_tests)

cap : (n v b x : ℕ) → n ≡ min v 1000001 → x ≡ v * 10 + (b - 48) → min (10 * n + (b - 48)) 1000001 ≡ min x 1000001
cap n v b x e is = omega (arith, e, is)

first_of : (a b c : Bool) → (a && b && c) ≡ true → a ≡ true
first_of true b c e = refl
first_of false b c e = absurd cc

pub numeral_digits : (w : List ℕ) → is_numeral w ≡ true → list_all is_digit w ≡ true
unfolding is_numeral
numeral_digits w e = first_of (list_all is_digit w) (nat_le 1 (length w)) (cond (get_or w 0 0 == 48) (length w == 1) true) e

-- one digit more, with the same cap
pub capped : (w : List ℕ) (i n b : ℕ) → list_all is_digit w ≡ true → i < length w → b ≡ get_or w i 0 → n ≡ min (digits_value 10 (take i w)) 1000001 → min (10 * n + (b - 48)) 1000001 ≡ min (digits_value 10 (take (i + 1) w)) 1000001
capped w i n b d lt is e =
    let r = digit_at w i d lt in
    let v : digit_value (get_or w i 0) ≡ get_or w i 0 - 48 = value_is (get_or w i 0) r.0 r.1 in
    let m : digits_value 10 (take (i + 1) w) ≡ digits_value 10 (take i w) * 10 + digit_value (get_or w i 0) = digits_value_more 10 w i lt in
    cap n (digits_value 10 (take i w)) b (digits_value 10 (take (i + 1) w)) e (omega (arith, m, v, is))

-- ---- a number of one digit

digit_value_of : (n : ℕ) → n < 10 → digits_value 10 ((48 + n) ∷ []) ≡ n
digit_value_of n lt =
    let v : digit_value (48 + n) ≡ 48 + n - 48 = value_is (48 + n) (omega arith) (omega arith) in
    let m : digits_value 10 ((48 + n) ∷ []) ≡ digits_value 10 [] * 10 + digit_value (48 + n) = digits_value_more 10 ((48 + n) ∷ []) 0 (omega arith) in
    omega (arith, m, v)

numeral_at : (d : ℕ) (t : Bool) → (d == 48) ≡ t → is_digit d ≡ true → is_numeral (d ∷ []) ≡ true
unfolding is_numeral
numeral_at d true e h = rw (h, e) refl
numeral_at d false e h = rw (h, e) refl

is_digit_of : (n : ℕ) → n < 10 → is_digit (48 + n) ≡ true
is_digit_of n lt = grind (arith, nat_tests)

within_of : (low high n : ℕ) → n < 10 → low ≤ n → n < high → (nat_le low n && nat_lt n high && nat_lt n 1000001) ≡ true
within_of low high n lt from to = grind (arith, nat_tests)

number_at : (low high n : ℕ) → n < 10 → low ≤ n → n < high → number_spelled low high ((48 + n) ∷ []) ≡ Ok n
unfolding number_spelled
number_at low high n lt from to =
    rw (digit_value_of n lt, numeral_at (48 + n) _ refl (is_digit_of n lt), within_of low high n lt from to) refl

-- a word of one digit is its number
pub digit_item : (low high n : ℕ) (behind ws : List Word) → IsDigit n behind ws → low ≤ n → n < high
    → item_at (Number low high) ws ≡ Ok (N n, behind)
unfolding item_at
digit_item low high n behind ws is from to = rw (is.1, number_at low high n is.0 from to) refl

digit_first : (d : ℕ) (behind : List ℕ) → (d == 32) ≡ false → taken (pieces 32 (d ∷ 32 ∷ behind)) ≡ Ok (d ∷ [], pieces 32 behind)
unfolding taken pieces cut
digit_first d behind e = rw e refl

not_space : (d : ℕ) → 48 ≤ d → (d == 32) ≡ false
not_space d low = grind (arith, nat_tests)

-- a digit before a space is the next word
pub digit_taken : (bytes : List ℕ) → 2 ≤ length bytes → 48 ≤ get_or bytes 0 0 → get_or bytes 0 0 ≤ 57 → get_or bytes 1 0 ≡ 32
    → IsDigit (get_or bytes 0 0 - 48) (pieces 32 (take (length bytes - 2) (drop 2 bytes))) (pieces 32 bytes)
digit_taken [] long low high e = absurd (omega arith)
digit_taken (d ∷ []) long low high e = absurd (omega arith)
digit_taken (d ∷ b ∷ behind) long low high e =
    let rest : take (length (d ∷ b ∷ behind) - 2) (drop 2 (d ∷ b ∷ behind)) ≡ behind = take_rest (d ∷ b ∷ behind) 2 in
    let back : 48 + (d - 48) ≡ d = omega arith in
    (omega arith, rw (rest, back, e) (digit_first d behind (not_space d low)))
