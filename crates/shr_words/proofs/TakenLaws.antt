-- SPDX-License-Identifier: GPL-2.0-only
-- A word that is cut behind its bytes of a class is the next word of a line.
use Rattle.shr_words.proofs.Common.{◌≡◌, ℕ, suc, ◌+◌, Bool, true, false, cond, List, [], ◌∷◌, length, Some, Result, Ok, Err, refl, sym, ap, ◌∙◌, arith, ◌==◌, prefix_len, list_all, nat_tests, Code, BadText, same_byte, Word, taken_of, cut_at, slice_index}
use Rattle.shr_model.specs.Pieces.{Parts, onto, cut, pieces}
use Rattle.shr_model.specs.PieceParts.{left}
use Rattle.shr_words.specs.WordReading.{taken}
use Rattle.shr_model.proofs.Booleans.{not_zero}

abbrev pub Found : Type 0
Found = Result (Word × List Word) Code

-- what was found, with a byte more at the head of its word
unfoldable pub longer : ℕ → Found → Found
longer b (Ok w) = Ok (b ∷ w.0, w.1)
longer b (Err e) = Err e

same_suc : (m n : ℕ) → (suc m == suc n) ≡ (m == n)
same_suc m n = grind (arith, nat_tests)

pub longer_at : (b : ℕ) (bs : List ℕ) (m : ℕ) (t u : Bool) → (m == length bs) ≡ t → (slice_index bs m == 32) ≡ u
    → cut_at (suc m) (b ∷ bs) ≡ longer b (cut_at m bs)
unfolding longer
longer_at b bs m true u e f = rw (same_suc m (length bs), e) refl
longer_at b bs m false true e f =
    let k : suc m + 1 ≡ suc (m + 1) = omega arith in
    rw (same_suc m (length bs), e, k, f) refl
longer_at b bs m false false e f = rw (same_suc m (length bs), e, f) refl

module _ (q : ℕ → Bool) (no : q 32 ≡ false) where
  -- the first part, where each of its bytes passes
  abbrev pub first_of : Parts → Found
  first_of p = cond (list_all q p.first) (Ok (p.first, p.others)) (Err BadText)

  longer_first : (b : ℕ) (p : Parts) (t : Bool) → list_all q p.first ≡ t → q b ≡ true → first_of (onto b p) ≡ longer b (first_of p)
  unfolding longer
  longer_first b p true e h = rw (h, e) refl
  longer_first b p false e h = rw (h, e) refl

  clash : (b : ℕ) → (b == 32) ≡ true → q b ≡ true → true ≡ false
  clash b e h = sym h ∙ (ap q (same_byte b 32 e) ∙ no)

  step : (b : ℕ) (bs : List ℕ) (t u : Bool) → q b ≡ t → (b == 32) ≡ u → cut_at (prefix_len q bs) bs ≡ first_of (cut 32 bs)
      → cut_at (prefix_len q (b ∷ bs)) (b ∷ bs) ≡ first_of (cut 32 (b ∷ bs))
  unfolding cut pieces
  step b bs true true e f h = let bad = clash b f e in absurd cc
  step b bs true false e f h =
      let k : 1 + prefix_len q bs ≡ suc (prefix_len q bs) = omega arith in
      let one : cut_at (suc (prefix_len q bs)) (b ∷ bs) ≡ longer b (cut_at (prefix_len q bs) bs) = longer_at b bs (prefix_len q bs) _ _ refl refl in
      rw (e, f, k) (one ∙ (ap (longer b) h ∙ sym (longer_first b (cut 32 bs) _ refl e)))
  step b bs false true e f h = rw (e, not_zero (length bs), f) refl
  step b bs false false e f h = rw (e, not_zero (length bs), f, e) refl

  pub cut_first : (bytes : List ℕ) → cut_at (prefix_len q bytes) bytes ≡ first_of (cut 32 bytes)
  unfolding cut
  cut_first [] = refl
  cut_first (b ∷ bs) = step b bs (q b) (b == 32) refl refl (cut_first bs)

  -- the word that ends behind its bytes of the class is the next one
  pub cut_is : (bytes : List ℕ) (n : ℕ) → n ≡ prefix_len q bytes → cut_at n bytes ≡ taken_of q (left 32 (Some bytes))
  unfolding left pieces taken
  cut_is bytes n e = rw e (cut_first bytes)
