-- SPDX-License-Identifier: GPL-2.0-only
-- Items in order with their numbers, one more.
use Rattle.std.proofs.Common.{◌≡◌, ℕ, ◌+◌, ◌<◌, ◌≤◌, List, [], ◌∷◌, ◌++◌, length, drop, get_or, sym, ap, ◌∙◌}
use Rattle.std.proofs.lemmas.List.{drop_more, drop_all, get_or_default}
use Rattle.shr_laws.specs.Lines.{numbered}

-- the item at i, whose number is n
pub numbered_next : {X : Type 0} (f : ℕ → X → List ℕ) (xs : List X) (i n m : ℕ) (x : X) → i < length xs → x ≡ get_or xs i x → m ≡ n + 1 → numbered f n (drop i xs) ≡ f n x ++ numbered f m (drop (i + 1) xs)
unfolding numbered
numbered_next f xs i n m x lt is next = rw next (ap (numbered f n) (drop_more xs i x lt ∙ ap (λ y. y ∷ drop (i + 1) xs) (sym is)))

-- the same, where the item is read with a default
pub numbered_next_at : {X : Type 0} (f : ℕ → X → List ℕ) (xs : List X) (i n m : ℕ) (d : X) → i < length xs → m ≡ n + 1 → numbered f n (drop i xs) ≡ f n (get_or xs i d) ++ numbered f m (drop (i + 1) xs)
numbered_next_at f xs i n m d lt next = numbered_next f xs i n m (get_or xs i d) lt (get_or_default xs i d (get_or xs i d) lt) next

-- no item is left
pub numbered_end : {X : Type 0} (f : ℕ → X → List ℕ) (xs : List X) (i n : ℕ) → length xs ≤ i → numbered f n (drop i xs) ≡ []
unfolding numbered
numbered_end f xs i n le = ap (numbered f n) (drop_all i xs le)
