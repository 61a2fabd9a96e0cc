-- SPDX-License-Identifier: GPL-2.0-only
-- Lines of words, and the spelling of numbers and of hexadecimal words.
use Rattle.std.specs.Prelude.{ℕ, zero, suc, ◌+◌, ◌/◌, ◌%◌, ℤ, pos, negsuc, nat_lt, if◌then◌else◌, List, [], ◌∷◌, ◌++◌, map}
use Rattle.std.specs.Int.Digits.{digits_of}

-- each word behind a space
abbrev pub spaced : List (List ℕ) → List ℕ
spaced [] = []
spaced (w ∷ ws) = 32 ∷ (w ++ spaced ws)

-- words parted by single spaces, and a line feed
abbrev pub line : List ℕ → List (List ℕ) → List ℕ
line first words = first ++ (spaced words ++ 10 ∷ [])

-- a number in decimal, with as many digits as it has
unfoldable pub numeral : ℕ → List ℕ
numeral zero = 48 ∷ []
numeral (suc n) = map (λ d. 48 + d) (digits_of 10 (suc n))

-- a number of either sign, a negative one behind a `-`
abbrev pub signed_numeral : ℤ → List ℕ
signed_numeral (pos n) = numeral n
signed_numeral (negsuc n) = 45 ∷ numeral (suc n)

-- a lower case hexadecimal digit
abbrev pub hex_digit : ℕ → ℕ
hex_digit n = if nat_lt n 10 then 48 + n else 87 + n

-- the last hexadecimal digits of a number, this many
unfoldable pub hex_digits : ℕ → ℕ → List ℕ
hex_digits zero n = []
hex_digits (suc digits) n = hex_digits digits (n / 16) ++ hex_digit (n % 16) ∷ []

-- a word of 64 bits in sixteen hexadecimal digits
abbrev pub hex : ℕ → List ℕ
hex n = hex_digits 16 n

-- the texts of items, each by its number and itself, from a first number on
unfoldable pub numbered : {X : Type 0} → (ℕ → X → List ℕ) → ℕ → List X → List ℕ
numbered f n [] = []
numbered f n (x ∷ xs) = f n x ++ numbered f (n + 1) xs
