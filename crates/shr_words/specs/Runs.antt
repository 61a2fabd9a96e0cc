-- SPDX-License-Identifier: GPL-2.0-only
-- Runs of bytes of a class. No public clause cites this module.
use Rattle.std.specs.Prelude.{◌≡◌, ℕ, ◌+◌, ◌==◌, if◌then◌else◌, ◌<◌, ◌≤◌, Bool, true, false, List, [], ◌∷◌, length, take, drop, slice_index, Result, Ok, Err}
use Rattle.std.specs.Int.{w64, trailing_zeros}
use Rattle.std.specs.List.{list_all}
use Rattle.shr_base.specs.declared.scripts.Code.{Code}
use Rattle.shr_base.specs.declared.scripts.Code.TheVariants.{BadText}
use Rattle.shr_model.specs.Pieces.{pieces}
use Rattle.shr_words.specs.Classes.{◌>>=◌, Word}
use Rattle.shr_words.specs.WordReading.{taken}

-- the bytes from at up to end pass the test
abbrev pub AllPassBetween : (ℕ → Bool) → List ℕ → ℕ → ℕ → Type 0
AllPassBetween test bytes at end = (k : ℕ) → at ≤ k → k < end → test (slice_index bytes k) ≡ true

-- the first run bytes of the n from at pass the test, and the next one of the n fails it
abbrev pub IsRunIn : (ℕ → Bool) → List ℕ → ℕ → ℕ → ℕ → Type 0
IsRunIn test bytes at n run =
    ((run ≤ n) × AllPassBetween test bytes at (at + run)) × (run < n → test (slice_index bytes (at + run)) ≡ false)

-- the place of the lowest bit that is set, or n
abbrev pub first_set : ℕ → ℕ → ℕ
first_set mask n = if mask == 0 then n else trailing_zeros w64 mask

-- the next word, where each of its bytes passes the test, or BadText
abbrev pub taken_of : (ℕ → Bool) → List Word → Result (Word × List Word) Code
taken_of test ws = taken ws >>= λ w. if list_all test w.0 then Ok w else Err BadText

-- the word of n bytes and those behind it, where the line ends or a space stands there, or BadText
abbrev pub cut_at : ℕ → List ℕ → Result (Word × List Word) Code
cut_at n bytes =
    if n == length bytes then Ok (bytes, []) else
    (if slice_index bytes n == 32 then Ok (take n bytes, pieces 32 (drop (n + 1) bytes)) else Err BadText)

-- the next word is the digit of n, and these are behind it
abbrev pub IsDigit : ℕ → List Word → List Word → Type 0
IsDigit n behind ws = (n < 10) × (taken ws ≡ Ok ((48 + n) ∷ [], behind))
