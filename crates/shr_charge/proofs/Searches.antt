-- SPDX-License-Identifier: GPL-2.0-only
-- The first entry of a kind, and the first child that isn't done, by a loop.
use Rattle.shr_charge.proofs.Common.{◌≡◌, ℕ, suc, ◌+◌, ◌<◌, ◌≤◌, ◌-◌, ◌||◌, Bool, true, false, cond, List, [], ◌∷◌, ◌++◌, length, take, drop, get_or, sym, refl, ap, ◌∙◌, arith, Option, Some, None, find, position_from, range_with_len, option_or, is_some, take-append-drop, TreeEntry, take_all, length-take-le}
use Rattle.std.proofs.lemmas.List.Folds.{find-append}
use Rattle.shr_charge.proofs.Listing.{take_next, get_here, position-append}
use Rattle.shr_charge.proofs.Entries.{position_past, position_new, position_grows}
use Rattle.shr_model.proofs.Numbers.{range_more}

module _ (p : TreeEntry → Bool) (xs : List TreeEntry) (n : ℕ) (d : TreeEntry) (low : n < length xs) (before : position_from p 0 (take n xs) ≡ None) where
  next_entry : take (n + 1) xs ≡ take n xs ++ get_or xs n d ∷ []
  next_entry = take_next xs n (get_or xs n d) (get_here xs n d low)

  -- an entry that fits after none did is the first
  pub found_first : p (get_or xs n d) ≡ true → Some n ≡ position_from p 0 xs
  found_first t = let new = position_new p (take n xs) (get_or xs n d) before t in let long : length (take n xs) ≡ n = length-take-le n xs (omega arith) in
      sym (ap (position_from p 0) (sym (take-append-drop (n + 1) xs)) ∙ position_grows p (take (n + 1) xs) (drop (n + 1) xs) n (ap (position_from p 0) next_entry ∙ (new ∙ ap Some long)))

  -- one more entry that does not fit
  pub none_more : p (get_or xs n d) ≡ false → position_from p 0 (take (n + 1) xs) ≡ None
  none_more f = ap (position_from p 0) next_entry ∙ (position_past p (take n xs) (get_or xs n d) f ∙ before)

-- no entry of the whole journal fits
pub none_whole : (p : TreeEntry → Bool) (xs : List TreeEntry) (n : ℕ) → length xs ≤ n → position_from p 0 (take n xs) ≡ None → None ≡ position_from p 0 xs
none_whole p xs n long e = sym (ap (position_from p 0) (sym (take_all n xs long)) ∙ e)

some_or : (x : Option ℕ) (b : Bool) (k : ℕ) → is_some (option_or x (cond b (Some k) None)) ≡ (is_some x || b)
some_or None true k = refl
some_or None false k = refl
some_or (Some x) b k = refl

-- an entry fits among those up to one more where one did before, or it fits itself
some_more : (p : TreeEntry → Bool) (xs : List TreeEntry) (n : ℕ) (d : TreeEntry) → n < length xs → is_some (position_from p 0 (take (n + 1) xs)) ≡ (is_some (position_from p 0 (take n xs)) || p (get_or xs n d))
some_more p xs n d low = let e : TreeEntry = get_or xs n d in ap (λ (l : List TreeEntry). is_some (position_from p 0 l)) (take_next xs n e (get_here xs n d low))
    ∙ (ap (λ (x : Option ℕ). is_some x) (position-append p 0 (take n xs) (e ∷ [])) ∙ some_or (position_from p 0 (take n xs)) (p e) (0 + length (take n xs)))

-- so a mark that took in one more entry is right where it was
pub marked_more : (p : TreeEntry → Bool) (xs : List TreeEntry) (n : ℕ) (d : TreeEntry) → n < length xs → (old new : Bool) → new ≡ (old || p (get_or xs n d)) → old ≡ is_some (position_from p 0 (take n xs)) → new ≡ is_some (position_from p 0 (take (n + 1) xs))
marked_more p xs n d low old new is was = is ∙ (ap (λ (b : Bool). b || p (get_or xs n d)) was ∙ sym (some_more p xs n d low))

module _ (p : ℕ → Bool) (n : ℕ) (before : find p (range_with_len 0 n) ≡ None) where
  next_number : range_with_len 0 (n + 1) ≡ range_with_len 0 n ++ n ∷ []
  next_number = range_more 0 n 1 ∙ ap (λ (k : ℕ). range_with_len 0 n ++ k ∷ []) (let e : 0 + n ≡ n = omega arith in e)

  -- one more group that does not fit
  pub find_more : p n ≡ false → find p (range_with_len 0 (n + 1)) ≡ None
  find_more f = ap (find p) next_number ∙ (find-append p (range_with_len 0 n) (n ∷ []) ∙ (ap (λ x. option_or x (cond (p n) (Some n) None)) before ∙ ap (λ b. cond b (Some n) None) f))

  -- a group that fits after none did is the lowest
  pub find_here : (m : ℕ) → n < m → p n ≡ true → find p (range_with_len 0 m) ≡ Some n
  find_here m low t = let rest : ℕ = m - (n + 1) in
      ap (λ (k : ℕ). find p (range_with_len 0 k)) (let e : m ≡ n + (1 + rest) = omega arith in e) ∙ (ap (find p) (range_more 0 n (1 + rest)) ∙ (find-append p (range_with_len 0 n) (range_with_len (0 + n) (1 + rest))
      ∙ (ap (λ x. option_or x (find p (range_with_len (0 + n) (1 + rest)))) before ∙ (ap (λ (k : ℕ). find p (range_with_len (0 + n) k)) (let e : 1 + rest ≡ suc rest = omega arith in e)
      ∙ (ap (λ (k : ℕ). cond (p k) (Some k) (find p (range_with_len (k + 1) rest))) (let e : 0 + n ≡ n = omega arith in e) ∙ ap (λ b. cond b (Some n) (find p (range_with_len (n + 1) rest))) t)))))
