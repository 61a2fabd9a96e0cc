-- SPDX-License-Identifier: GPL-2.0-only
-- The words of a line are read back.
use Rattle.shr_report.proofs.Common.{◌≡◌, ℕ, zero, suc, ◌+◌, ◌*◌, ◌-◌, ◌/◌, ◌%◌, ◌^◌, ◌<◌, Bool, true, false, List, [], ◌∷◌, ◌++◌, refl, arith, inl, inr, ap, ◌∙◌, sub-one, ◌==◌, bytes_eq, ◌||◌, length, map, ℤ, pos, negsuc, ◌⊎◌, list_all, digits_of, nat_tests, is_key, is_value, is_name, cut, differs, and_true, same_byte, joined_cut, signed_numeral, hex, hex_digit, pow-suc, number_from_digits, AllBelowBase, is_visible, is_between, is_name_byte, is_part}
use Rattle.std.proofs.lemmas.Int.Digits.{number_digits_of, all_below_base_digits_of}
use Rattle.shr_model.specs.Paths.{is_path, all_parts}
use Rattle.shr_model.specs.Pieces.{pieces, joined}
use Rattle.shr_laws.specs.Lines.{numeral, hex_digits}
use Rattle.shr_report.proofs.Peel.{is_plain, is_plain_word}
use Rattle.shr_report.specs.ReadWords.{num, digit_of, hex_onto, unhex, starts_minus, later_bytes, signed_num}

digits_again : (ds : List ℕ) → map (λ c. c - 48) (map (λ d. 48 + d) ds) ≡ ds
digits_again [] = refl
digits_again (d ∷ ds) = let here : 48 + d - 48 ≡ d = omega arith in rw (here, digits_again ds) refl

-- what a number is printed as writes the number, of however many digits
pub value : (n : ℕ) → num (numeral n) ≡ n
unfolding num numeral
value zero = refl
value (suc n) = ap (number_from_digits 10) (digits_again (digits_of 10 (suc n))) ∙ number_digits_of 10 (suc n) (omega arith)

all_digits : (p : ℕ → Bool) → ((d : ℕ) → d < 10 → p (48 + d) ≡ true) → (ds : List ℕ) → AllBelowBase 10 ds → list_all p (map (λ d. 48 + d) ds) ≡ true
all_digits p one [] h = refl
all_digits p one (d ∷ ds) h = rw (one d h.0, all_digits p one ds h.1) refl

-- what holds of each digit holds of each byte of a number
all_numeral : (p : ℕ → Bool) → ((d : ℕ) → d < 10 → p (48 + d) ≡ true) → (n : ℕ) → list_all p (numeral n) ≡ true
unfolding numeral
all_numeral p one zero = rw (one 0 (omega arith)) refl
all_numeral p one (suc n) = all_digits p one (digits_of 10 (suc n)) (all_below_base_digits_of 10 (suc n) (omega arith))

plain_digit : (d : ℕ) → d < 10 → is_plain (48 + d) ≡ true
plain_digit d h = grind (arith, nat_tests)

pub plain_numeral : (n : ℕ) → is_plain_word (numeral n) ≡ true
unfolding is_plain_word
plain_numeral n = all_numeral is_plain plain_digit n

visible_plain : (b : ℕ) → is_visible b ≡ true → is_plain b ≡ true
visible_plain b h = grind (arith, nat_tests)

all_visible : (w : List ℕ) → list_all is_visible w ≡ true → list_all is_plain w ≡ true
all_visible [] h = refl
all_visible (b ∷ w) h =
    let a = and_true (is_visible b) (list_all is_visible w) h in
    rw (visible_plain b a.0, all_visible w a.1) refl

pub plain_key : (w : List ℕ) → is_key w ≡ true → is_plain_word w ≡ true
unfolding is_plain_word
plain_key w h = all_visible w (and_true (is_between 1 64 (length w)) (list_all is_visible w) h).1

pub plain_value : (w : List ℕ) → is_value w ≡ true → is_plain_word w ≡ true
unfolding is_plain_word
plain_value w h = all_visible w (and_true (is_between 0 255 (length w)) (list_all is_visible w) h).1

name_plain : (b : ℕ) → is_name_byte b ≡ true → is_plain b ≡ true
name_plain b h = grind (arith, nat_tests)

all_name : (w : List ℕ) → list_all is_name_byte w ≡ true → list_all is_plain w ≡ true
all_name [] h = refl
all_name (b ∷ w) h =
    let a = and_true (is_name_byte b) (list_all is_name_byte w) h in
    rw (name_plain b a.0, all_name w a.1) refl

pub plain_name : (w : List ℕ) → is_name w ≡ true → is_plain_word w ≡ true
unfolding is_plain_word
plain_name w h = all_name w (and_true (is_between 1 16 (length w)) (list_all is_name_byte w) h).1

part_plain : (w : List ℕ) → is_part w ≡ true → list_all is_plain w ≡ true
part_plain w h = all_name w (and_true (is_between 1 32 (length w)) (list_all is_name_byte w) h).1

append_plain : (v w : List ℕ) → list_all is_plain v ≡ true → list_all is_plain w ≡ true → list_all is_plain (v ++ w) ≡ true
append_plain [] w h k = k
append_plain (b ∷ v) w h k =
    let a = and_true (is_plain b) (list_all is_plain v) h in
    rw (a.0, append_plain v w a.1 k) refl

joined_plain : (w : List ℕ) (ws : List (List ℕ)) → list_all is_part (w ∷ ws) ≡ true → list_all is_plain (joined 47 w ws) ≡ true
unfolding joined
joined_plain w [] h = part_plain w (and_true (is_part w) true h).0
joined_plain w (v ∷ vs) h =
    let a = and_true (is_part w) (list_all is_part (v ∷ vs)) h in
    append_plain w (47 ∷ joined 47 v vs) (part_plain w a.0) (joined_plain v vs a.1)

pub either : (a b : Bool) → (a || b) ≡ true → (a ≡ true) ⊎ (b ≡ true)
either true b h = inl refl
either false b h = inr h

parts_plain : (bs : List ℕ) → all_parts (pieces 47 bs) ≡ true → list_all is_plain bs ≡ true
unfolding pieces
parts_plain bs h = let k = joined_plain (cut 47 bs).first (cut 47 bs).others h in rw (joined_cut 47 bs) at k

tail_plain : (bs : List ℕ) → (bytes_eq bs [] || all_parts (pieces 47 bs)) ≡ true → list_all is_plain bs ≡ true
tail_plain [] h = refl
tail_plain (b ∷ bs) h = elim (either (bytes_eq (b ∷ bs) []) (all_parts (pieces 47 (b ∷ bs))) h) [ inl e ↦ absurd (no_eq e) | inr e ↦ parts_plain (b ∷ bs) e ]
  where
    no_eq : bytes_eq (b ∷ bs) [] ≡ true → ⊥
    no_eq e = cc

pub plain_path : (w : List ℕ) → is_path w ≡ true → is_plain_word w ≡ true
unfolding is_plain_word is_path
plain_path [] h = refl
plain_path (b ∷ bs) h =
    let a = and_true (b == 47) (bytes_eq bs [] || all_parts (pieces 47 bs)) h in
    rw (same_byte b 47 a.0, tail_plain bs a.1) refl

-- hexadecimal words

hex_plain_digit : (n : ℕ) → is_plain (hex_digit (n % 16)) ≡ true
hex_plain_digit n = grind (arith, nat_tests)

hex_digits_plain : (k n : ℕ) → list_all is_plain (hex_digits k n) ≡ true
unfolding hex_digits
hex_digits_plain zero n = refl
hex_digits_plain (suc k) n = append_plain (hex_digits k (n / 16)) (hex_digit (n % 16) ∷ []) (hex_digits_plain k (n / 16)) (rw (hex_plain_digit n) refl)

pub plain_hex : (n : ℕ) → is_plain_word (hex n) ≡ true
unfolding is_plain_word
plain_hex n = hex_digits_plain 16 n

hex_onto_push : (n d : ℕ) (ds : List ℕ) → hex_onto n (ds ++ d ∷ []) ≡ 16 * hex_onto n ds + digit_of d
unfolding hex_onto
hex_onto_push n d [] = refl
hex_onto_push n d (e ∷ ds) = hex_onto_push (16 * n + digit_of e) d ds

digit_again : (n : ℕ) → digit_of (hex_digit (n % 16)) ≡ n % 16
unfolding digit_of
digit_again n = grind (arith, nat_tests)

hex_onto_again : (k n : ℕ) → n < 16 ^ k → hex_onto 0 (hex_digits k n) ≡ n
unfolding hex_onto hex_digits
hex_onto_again zero n h = omega arith
hex_onto_again (suc k) n h =
    let power : 16 ^ suc k ≡ 16 ^ k * 16 = pow-suc 16 k in
    let front = hex_onto_again k (n / 16) (omega arith) in
    rw (hex_onto_push 0 (hex_digit (n % 16)) (hex_digits k (n / 16)), digit_again n, front) (omega arith)

-- the sixteen digits of a word read back as it
pub hex_value : (n : ℕ) → n < 2 ^ 64 → unhex (hex n) ≡ n
unfolding unhex
hex_value n h = hex_onto_again 16 n h

-- signed numbers

pub plain_signed : (z : ℤ) → is_plain_word (signed_numeral z) ≡ true
unfolding is_plain_word
plain_signed (pos n) = unfold is_plain_word in plain_numeral n
plain_signed (negsuc n) = unfold is_plain_word in plain_numeral (suc n)

digit_unsigned : (d : ℕ) → d < 10 → differs 45 (48 + d) ≡ true
digit_unsigned d h = grind (arith, nat_tests)

not_minus_at : (b : ℕ) → differs 45 b ≡ true → (b == 45) ≡ false
not_minus_at b h = grind (arith, nat_tests)

not_minus : (w : List ℕ) → list_all (differs 45) w ≡ true → starts_minus w ≡ false
unfolding starts_minus
not_minus [] h = refl
not_minus (b ∷ w) h = not_minus_at b (and_true (differs 45 b) (list_all (differs 45) w) h).0

unsigned : (n : ℕ) → starts_minus (numeral n) ≡ false
unsigned n = not_minus (numeral n) (all_numeral (differs 45) digit_unsigned n)

-- a number with its sign reads back as it
pub signed_value : (z : ℤ) → signed_num (signed_numeral z) ≡ z
unfolding signed_num starts_minus later_bytes
signed_value (pos n) = rw (unsigned n, value n) refl
signed_value (negsuc n) = rw (value (suc n), sub-one) refl
