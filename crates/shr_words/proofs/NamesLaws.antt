-- SPDX-License-Identifier: GPL-2.0-only
-- A set of words in order is their list.
use Rattle.shr_words.proofs.Common.{◌≡◌, ℕ, suc, ◌+◌, Bool, true, false, cond, List, [], ◌∷◌, ◌++◌, length, map, Option, Some, None, refl, ap, arith, Bor, bytes_eq, option_map, nat_lt, nat_tests, Word, position, position_or_len, list_any, map_push}
use Rattle.shr_words.specs.Classes.{place_of}
use Rattle.shr_words.specs.declared.names.Whole.{Whole}

one_on : (m n : ℕ) → nat_lt (1 + m) (suc n) ≡ nat_lt m n
one_on m n = grind (arith, nat_tests)

zero_on : (n : ℕ) → nat_lt 0 (suc n) ≡ true
zero_on n = grind (arith, nat_tests)

later : (m : ℕ) (t : Bool) → cond t (Some (1 + m)) None ≡ option_map (λ i. i + 1) (cond t (Some m) None)
later m true = ap (λ (i : ℕ). Some i) (omega arith)
later m false = refl

abbrev some : ℕ → Option ℕ
some i = Some i

none_of : (r : Option ℕ) → option_map (λ i. i + 1) r ≡ None → r ≡ None
none_of None e = refl
none_of (Some x) e = absurd cc

module _ {K : Type 0} (word : K → Word) where
  position_on : (w : Word) (k : K) (ks : List K) (t : Bool) → bytes_eq w (word k) ≡ t
      → position (λ r. bytes_eq w (word r)) ks ≡ place_of w (map word ks)
      → position (λ r. bytes_eq w (word r)) (k ∷ ks) ≡ place_of w (map word (k ∷ ks))
  unfolding place_of
  position_on w k ks true e h = rw (e, zero_on (length ks)) refl
  position_on w k ks false e h =
      let n = position_or_len (λ (r : K). bytes_eq w (word r)) ks in
      rw (e, one_on n (length ks), ← h) (later n (nat_lt n (length ks)))

  -- the first key that is the word stands at the word's place
  pub position_is : (w : Word) (ks : List K) → position (λ r. bytes_eq w (word r)) ks ≡ place_of w (map word ks)
  unfolding place_of
  position_is w [] = refl
  position_is w (k ∷ ks) = position_on w k ks (bytes_eq w (word k)) refl (position_is w ks)

  none_on : (w : Word) (k : K) (ks : List K) (t : Bool) → bytes_eq w (word k) ≡ t → place_of w (map word (k ∷ ks)) ≡ None
      → (place_of w (map word ks) ≡ None → list_any (λ r. bytes_eq w (word r)) ks ≡ false) → list_any (λ r. bytes_eq w (word r)) (k ∷ ks) ≡ false
  unfolding place_of
  none_on w k ks true e h more = let n : some 0 ≡ None = rw e at h in absurd cc
  none_on w k ks false e h more = rw (e, more (none_of (place_of w (map word ks)) (rw e at h))) refl

  -- a word without a place is no key
  pub none_is : (w : Word) (ks : List K) → place_of w (map word ks) ≡ None → list_any (λ r. bytes_eq w (word r)) ks ≡ false
  none_is w [] h = refl
  none_is w (k ∷ ks) h = none_on w k ks (bytes_eq w (word k)) refl h (none_is w ks)

  -- a word without a place is inserted behind the others
  pub inserted_last : (w : K) (ks after : List K) → place_of (word w) (map word ks) ≡ None
      → after ≡ cond (list_any (λ r. bytes_eq (word w) (word r)) ks) ks (ks ++ w ∷ []) → map word after ≡ map word ks ++ word w ∷ []
  inserted_last w ks after h e = rw (e, none_is (word w) ks h) (map_push word ks w)

abbrev bytes_of : Whole → List ℕ
bytes_of w = w.bytes.now

abbrev whole : Bor (List ℕ) → Whole
whole w = record { bytes = w }

-- a word that isn't in a set is added behind the others
pub goes_last : (w : Bor (List ℕ)) (ks after : List Whole) → place_of w.now (map bytes_of ks) ≡ None
    → after ≡ cond (list_any (λ v. bytes_eq w.now v.bytes.now) ks) ks (ks ++ record { bytes = w } ∷ []) → map bytes_of after ≡ map bytes_of ks ++ w.now ∷ []
goes_last w ks after h e = inserted_last bytes_of (whole w) ks after h e
