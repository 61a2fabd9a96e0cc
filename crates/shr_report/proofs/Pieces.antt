-- SPDX-License-Identifier: GPL-2.0-only
-- The digits of numbers in a piece of a line.
use Rattle.shr_report.proofs.Common.{◌≡◌, ℕ, List, zero, suc, ◌^◌, ◌<◌, ◌≤◌, ◌+◌, ◌/◌, ◌%◌, [], ◌∷◌, ◌++◌, length, map, refl, ap, ◌∙◌, arith, decimal, digits_of}
use Rattle.std.proofs.lemmas.Int.Digits.{digits_of_step}
use Rattle.std.proofs.lemmas.Fmt.{length-decimal-le}
use Rattle.shr_laws.specs.Lines.{numeral}
use Rattle.shr_report.proofs.Numerals.{decimal_is}

-- a number below ten is one digit
pub one_digit : (n : ℕ) → n < 10 → numeral n ≡ (48 + n) ∷ []
unfolding numeral
one_digit zero h = refl
one_digit (suc n) h =
    let none : suc n / 10 ≡ 0 = omega arith in
    let all : suc n % 10 ≡ suc n = omega arith in
    let whole : digits_of 10 (suc n) ≡ suc n ∷ [] = rw (digits_of_step 10 (suc n) (omega arith) (omega arith), none, all) refl in
    ap (λ ds. map (λ d. 48 + d) ds) whole

-- a number of 64 bits has at most twenty digits
pub few_digits : (n : ℕ) → n < 2 ^ 64 → length (decimal n) ≤ 20
few_digits n h = length-decimal-le 20 n (omega arith) (omega (arith, h)) h

-- they are spelled as the report has them
pub digits_before : (n : ℕ) → (now rest : List ℕ) → n < 2 ^ 64 → now ≡ decimal n ++ rest → now ≡ numeral n ++ rest
digits_before n now rest h is = is ∙ ap (λ ds. ds ++ rest) (decimal_is n h)
