-- SPDX-License-Identifier: GPL-2.0-only
-- The hexadecimal digits of a word, from the last to the first.
use Rattle.shr_report.proofs.Common.{◌≡◌, ℕ, List, zero, suc, ◌-◌, ◌/◌, ◌%◌, ◌<◌, ◌≤◌, [], ◌∷◌, ◌++◌, refl, sym, ap, ◌∙◌, arith, append_assoc, sub-one, codes, hex_digit}
use Rattle.shr_laws.specs.Lines.{hex_digits}

-- one digit behind those of a sixteenth of a number gives the digits of the number
hex_more : (digits n d : ℕ) → 0 < digits → d ≡ hex_digit (n % 16) → hex_digits (digits - 1) (n / 16) ++ d ∷ [] ≡ hex_digits digits n
unfolding hex_digits
hex_more zero n d lt f = absurd (omega arith)
hex_more (suc k) n d lt f = rw (f, sub-one) refl

-- a digit that is written before others is no longer left
pub hex_next : (digits n d : ℕ) (rest : List ℕ) → 0 < digits → d ≡ hex_digit (n % 16) → hex_digits (digits - 1) (n / 16) ++ d ∷ rest ≡ hex_digits digits n ++ rest
hex_next digits n d rest lt f = sym (append_assoc (hex_digits (digits - 1) (n / 16)) (d ∷ []) rest) ∙ ap (λ (ds : List ℕ). ds ++ rest) (hex_more digits n d lt f)

-- no digit is left
pub hex_done : (digits n : ℕ) (rest : List ℕ) → digits ≤ 0 → hex_digits digits n ++ rest ≡ rest
unfolding hex_digits
hex_done zero n rest le = refl
hex_done (suc k) n rest le = absurd (omega arith)

zeros : hex_digits 15 0 ≡ codes "000000000000000"
unfolding hex_digits
zeros = refl

-- a word below sixteen has one digit behind its zeros
pub hex_low : (n d : ℕ) (rest : List ℕ) → n < 16 → d ≡ hex_digit n → codes "000000000000000" ++ d ∷ rest ≡ hex_digits 16 n ++ rest
hex_low n d rest lt f =
    let none : n / 16 ≡ 0 = omega (arith, lt) in
    let same : n % 16 ≡ n = omega (arith, lt) in
    let front : codes "000000000000000" ≡ hex_digits 15 (n / 16) = sym zeros ∙ ap (λ (m : ℕ). hex_digits 15 m) (sym none) in
    ap (λ (ds : List ℕ). ds ++ d ∷ rest) front ∙ hex_next 16 n d rest (omega arith) (f ∙ ap (λ (m : ℕ). hex_digit m) (sym same))
