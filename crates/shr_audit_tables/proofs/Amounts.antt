-- SPDX-License-Identifier: GPL-2.0-only
-- Printed words that stand by place, and places that no table has.
use Rattle.shr_audit_tables.proofs.Common.{◌≡◌, ℕ, suc, ◌+◌, ◌<◌, ◌≤◌, ◌^◌, ◌⊎◌, inl, inr, Bool, true, false, cond, List, [], ◌∷◌, length, get_or, Some, refl, sym, subst, ◌∙◌, arith, ◌==◌, sum_by, AllByRecursion, AllAdjacentBelow, cases_lt, nat_tests, sum_by-cons, Place, PlaceAmount, is_place, amount_at, sum_at, IsAmountWell, deferred_key, IsNarrow, find, amount_in, IsNumbered, IsPlaceBefore}

-- ---- places and their numbers

pub narrow : (p : Place) → IsNumbered p → IsNarrow p
narrow p h = let n = h.node in let g = h.group in record { node = omega arith; group = omega arith }

pub before_key : (p q : Place) → IsNarrow p → IsPlaceBefore p q → deferred_key p < deferred_key q
before_key p q n (inl a) = let x = n.node in let y = n.group in omega (arith, a)
before_key p q n (inr (id, inl a)) = let x = n.node in let y = n.group in omega (arith, id, a)
before_key p q n (inr (id, inr (node, a))) = omega (arith, id, node, a)

pub same_key : (p q : Place) → is_place p q ≡ true → deferred_key p ≡ deferred_key q
same_key p q e = grind (arith, nat_tests)

pub flipped : (p q : Place) → is_place p q ≡ is_place q p
flipped p q = rw (flip p.id q.id, flip p.node q.node, flip p.group q.group) refl
  where
    flip : (a b : ℕ) → (a == b) ≡ (b == a)
    flip a b = grind (arith, nat_tests)

apart_keys : (p q : Place) → (deferred_key p ≡ deferred_key q → ⊥) → is_place p q ≡ false
apart_keys p q ne = by_bool (is_place p q) refl
  where
    by_bool : (b : Bool) → is_place p q ≡ b → is_place p q ≡ false
    by_bool true e = absurd (ne (same_key p q e))
    by_bool false e = e

-- ---- words that stand by place

-- the numbers of the places of these are at least this one, and rise
AreAbove : ℕ → List PlaceAmount → Type 0
AreAbove k [] = Unit {0}
AreAbove k (x ∷ xs) = (k ≤ deferred_key x.place) × AreAbove (deferred_key x.place + 1) xs

none_above : (k : ℕ) (xs : List PlaceAmount) (p : Place) → AreAbove k xs → deferred_key p < k → sum_at p xs ≡ 0
unfolding AreAbove
none_above k [] p h lt = refl
none_above k (x ∷ xs) p h lt =
    let low = h.0 in
    let other : is_place p x.place ≡ false = apart_keys p x.place (λ e. absurd (omega (arith, e, low, lt))) in
    let more : deferred_key p < deferred_key x.place + 1 = omega (arith, low, lt) in
    let rest : sum_at p xs ≡ 0 = none_above (deferred_key x.place + 1) xs p h.1 more in
    sum_by-cons (amount_at p) x xs ∙ rw other (omega (arith, rest))

found_first : (x : PlaceAmount) (xs : List PlaceAmount) (p : Place) → (is_place x.place p ≡ true → sum_at p xs ≡ 0) → sum_at p xs ≡ amount_in (find (λ (x : PlaceAmount). is_place x.place p) xs)
    → (b : Bool) → is_place x.place p ≡ b → cond (is_place p x.place) x.amount 0 + sum_at p xs ≡ amount_in (cond (is_place x.place p) (Some x) (find (λ (x : PlaceAmount). is_place x.place p) xs))
found_first x xs p none more true e = let rest = none e in rw (flipped p x.place, e) (omega (arith, rest))
found_first x xs p none more false e = rw (flipped p x.place, e) (omega (arith, more))

found_above : (k : ℕ) (xs : List PlaceAmount) (p : Place) → AreAbove k xs → sum_at p xs ≡ amount_in (find (λ (x : PlaceAmount). is_place x.place p) xs)
unfolding AreAbove
found_above k [] p h = refl
found_above k (x ∷ xs) p h = sum_by-cons (amount_at p) x xs ∙ found_first x xs p (λ e. none_above (deferred_key x.place + 1) xs p h.1 (omega (arith, same_key x.place p e))) (found_above (deferred_key x.place + 1) xs p h.1) (is_place x.place p) refl

above_from : (x : PlaceAmount) (xs : List PlaceAmount) → AllByRecursion IsAmountWell (x ∷ xs) → AllAdjacentBelow (λ (d e : PlaceAmount). IsPlaceBefore d.place e.place) (x ∷ xs) (length (x ∷ xs)) → AreAbove (deferred_key x.place + 1) xs
unfolding AreAbove
above_from x [] well h = tt
above_from x (y ∷ ys) well h =
    let before = before_key x.place y.place (narrow x.place well.0.numbers) (h 0 x (omega arith)) in
    (omega (arith, before), above_from y ys well.1 (λ k d lt. later k d lt (h (suc k) d)))
  where
    later : (k : ℕ) (d : PlaceAmount) → k + 1 < length (y ∷ ys) → (suc k + 1 < length (x ∷ y ∷ ys) → IsPlaceBefore (get_or (x ∷ y ∷ ys) (suc k) d).place (get_or (x ∷ y ∷ ys) (suc k + 1) d).place)
        → IsPlaceBefore (get_or (y ∷ ys) k d).place (get_or (y ∷ ys) (k + 1) d).place
    later k d lt h = let e : suc k + 1 ≡ suc (k + 1) = omega arith in let g = rw e at h in g (omega arith)

-- of words that stand by place, what is printed at one is their sum there
pub found_sum : (xs : List PlaceAmount) (p : Place) → AllByRecursion IsAmountWell xs → AllAdjacentBelow (λ (d e : PlaceAmount). IsPlaceBefore d.place e.place) xs (length xs) → sum_at p xs ≡ amount_in (find (λ (x : PlaceAmount). is_place x.place p) xs)
unfolding AreAbove
found_sum [] p well h = refl
found_sum (x ∷ xs) p well h = found_above 0 (x ∷ xs) p (omega arith, above_from x xs well h)

found_small : (p : Place) (ys : List PlaceAmount) → AllByRecursion IsAmountWell ys → amount_in (find (λ (x : PlaceAmount). is_place x.place p) ys) < 2 ^ 64
found_small p [] well = omega arith
found_small p (y ∷ ys) well = by_bool (found_small p ys well.1) (is_place y.place p)
  where
    by_bool : amount_in (find (λ (x : PlaceAmount). is_place x.place p) ys) < 2 ^ 64 → (b : Bool) → amount_in (cond b (Some y) (find (λ (x : PlaceAmount). is_place x.place p) ys)) < 2 ^ 64
    by_bool more true = well.0.amount
    by_bool more false = more

-- so it is a word
pub small_sum : (xs : List PlaceAmount) (p : Place) → AllByRecursion IsAmountWell xs → AllAdjacentBelow (λ (d e : PlaceAmount). IsPlaceBefore d.place e.place) xs (length xs) → sum_at p xs < 2 ^ 64
small_sum xs p well h = subst (λ (n : ℕ). n < 2 ^ 64) (sym (found_sum xs p well h)) (found_small p xs well)

-- ---- places that no table has

-- the node or the group is out of the range of its type
abbrev pub IsWide : Place → Type 0
IsWide p = (256 ≤ p.node) ⊎ (65536 ≤ p.group)

pub narrow_or_wide : (p : Place) → IsNarrow p ⊎ IsWide p
narrow_or_wide p = by_node (cases_lt p.node 256)
  where
    by_group : p.node < 256 → (p.group < 65536) ⊎ (65536 ≤ p.group) → IsNarrow p ⊎ IsWide p
    by_group n (inl g) = inl (record { node = n; group = g })
    by_group n (inr g) = inr (inr g)

    by_node : (p.node < 256) ⊎ (256 ≤ p.node) → IsNarrow p ⊎ IsWide p
    by_node (inl n) = by_group n (cases_lt p.group 65536)
    by_node (inr n) = inr (inl n)

pub outside : (p q : Place) → IsWide p → q.node < 256 → q.group < 65536 → is_place p q ≡ false
outside p q (inl w) n g = by_bool (is_place p q) refl
  where
    by_bool : (b : Bool) → is_place p q ≡ b → is_place p q ≡ false
    by_bool true e = absurd (grind (arith, nat_tests))
    by_bool false e = e
outside p q (inr w) n g = by_bool (is_place p q) refl
  where
    by_bool : (b : Bool) → is_place p q ≡ b → is_place p q ≡ false
    by_bool true e = absurd (grind (arith, nat_tests))
    by_bool false e = e

pub sum_none : {X : Type 0} (f : X → ℕ) (xs : List X) → AllByRecursion (λ (x : X). f x ≡ 0) xs → sum_by f xs ≡ 0
sum_none f [] h = refl
sum_none f (x ∷ xs) h = let here = h.0 in let more = sum_none f xs h.1 in sum_by-cons f x xs ∙ omega (arith, here, more)
