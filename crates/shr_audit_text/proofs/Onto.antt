-- SPDX-License-Identifier: GPL-2.0-only
-- What a word says, byte by byte.
use Rattle.std.proofs.Common.{◌≡◌, ℕ, suc, ◌+◌, ◌*◌, ◌-◌, ◌<◌, ◌≤◌, ◌^◌, List, [], ◌∷◌, length, get_or, drop, Some, None, refl, arith}
use Rattle.std.specs.Prelude.{map}
use Rattle.std.specs.Int.Digits.{number_from_digits_after}
use Rattle.std.proofs.lemmas.List.{at_drop_more, at_drop_all}
use Rattle.shr_model.specs.PieceParts.{next_part}
use Rattle.shr_report.specs.ReadWords.{later, num, digit_of, hex_onto, unhex}
use Rattle.std.proofs.Math.Seq.{drop-cons}

-- none is left where there is no next
pub none_left : (ws : List (List ℕ)) → None ≡ next_part ws → [] ≡ later ws
none_left [] e = refl
none_left (w ∷ ws) e = absurd (no (w, ws) e)
  where
    no : (x : List ℕ × List (List ℕ)) → None ≡ Some x → ⊥
    no x e = cc

-- the number that the bytes from here on make of the one so far
pub onto : ℕ → List ℕ → ℕ
onto n bytes = number_from_digits_after 10 n (map (λ c. c - 48) bytes)

pub onto_all : (w : List ℕ) → onto 0 w ≡ num w
unfolding onto num
onto_all w = refl

pub onto_more : (w : List ℕ) (i n : ℕ) → i < length w → onto n (drop i w) ≡ onto (n * 10 + (get_or w i 0 - 48)) (drop (i + 1) w)
unfolding onto
onto_more w i n lt = at_drop_more (onto n) w i 0 lt

pub onto_none : (w : List ℕ) (i n : ℕ) → length w ≤ i → onto n (drop i w) ≡ n
unfolding onto
onto_none w i n le = at_drop_all (onto n) w i le

pub onto_least : (n : ℕ) (w : List ℕ) → n ≤ onto n w
unfolding onto
onto_least n [] = omega arith
onto_least n (b ∷ w) = let more = onto_least (n * 10 + (b - 48)) w in omega (arith, more)

-- a number that is too great stays so
pub too_great : (w : List ℕ) (i n : ℕ) → i < length w → onto n (drop i w) ≡ num w → 2 ^ 64 ≤ n * 10 + (get_or w i 0 - 48) → 2 ^ 64 ≤ num w
too_great w i n lt e le = let a = onto_more w i n lt in let more = onto_least (n * 10 + (get_or w i 0 - 48)) (drop (i + 1) w) in omega (arith, a, more, e, le)

-- the same in hexadecimal
pub hex_all : (w : List ℕ) → hex_onto 0 w ≡ unhex w
unfolding unhex
hex_all w = refl

hex_step : (w : List ℕ) (i n d : ℕ) (ds : List ℕ) → drop i w ≡ d ∷ ds → hex_onto n (drop i w) ≡ hex_onto (n * 16 + digit_of d) ds
unfolding hex_onto
hex_step w i n d ds e = let turned : 16 * n ≡ n * 16 = omega arith in rw (e, turned) refl

pub hex_more : (w : List ℕ) (i n : ℕ) → i < length w → hex_onto n (drop i w) ≡ hex_onto (n * 16 + digit_of (get_or w i 0)) (drop (i + 1) w)
hex_more w i n lt =
    let more : i + 1 ≡ suc i = omega arith in
    hex_step w i n (get_or w i 0) (drop (i + 1) w) (rw more (drop-cons w i 0 lt))

pub hex_none : (w : List ℕ) (i n : ℕ) → length w ≤ i → hex_onto n (drop i w) ≡ n
unfolding hex_onto
hex_none w i n le = at_drop_all (hex_onto n) w i le

pub hex_least : (n : ℕ) (w : List ℕ) → n ≤ hex_onto n w
unfolding hex_onto
hex_least n [] = omega arith
hex_least n (b ∷ w) = let more = hex_least (16 * n + digit_of b) w in omega (arith, more)

-- a number that is too great stays so
pub too_great_hex : (w : List ℕ) (i n : ℕ) → i < length w → hex_onto n (drop i w) ≡ unhex w → 2 ^ 64 ≤ n * 16 + digit_of (get_or w i 0) → 2 ^ 64 ≤ unhex w
too_great_hex w i n lt e le = let a = hex_more w i n lt in let more = hex_least (n * 16 + digit_of (get_or w i 0)) (drop (i + 1) w) in omega (arith, a, more, e, le)
