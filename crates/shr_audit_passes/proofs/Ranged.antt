-- SPDX-License-Identifier: GPL-2.0-only
-- Items with rising keys: those of one key stand together.
use Rattle.shr_audit_passes.proofs.Common.{◌≡◌, ℕ, zero, suc, ◌-◌, ◌<◌, ◌≤◌, Bool, true, false, cond, List, [], ◌∷◌, length, take, Some, refl, sym, ap, ◌∙◌, arith, ◌==◌, filter, nat_lt, nat_le, slice_get, nat_tests, common_steps, WalkRecord, StandByCommand, drop, IsNonDecreasingBy-from_all_adjacent, below_of}
use Rattle.std.specs.List.Sorted.{IsPartitionedBy, IsNonDecreasingBy}
use Rattle.shr_model.proofs.Booleans.{is_same}

other : (a k : ℕ) → (a ≡ k → ⊥) → (a == k) ≡ false
other a k ne = grind (arith, nat_tests)

-- the items from `low` up to `high` are those of the key
pub range_filter : {X : Type 0} (key : X → ℕ) (k : ℕ) (xs : List X) (low high : ℕ) → low ≤ high → high ≤ length xs
    → ((n : ℕ) (x : X) → n < low → slice_get xs n ≡ Some x → key x < k) → ((n : ℕ) (x : X) → low ≤ n → slice_get xs n ≡ Some x → k ≤ key x)
    → ((n : ℕ) (x : X) → n < high → slice_get xs n ≡ Some x → key x ≤ k) → ((n : ℕ) (x : X) → high ≤ n → slice_get xs n ≡ Some x → k < key x)
    → take (high - low) (drop low xs) ≡ filter (λ (x : X). key x == k) xs
range_filter key k [] low high le few a b c d = grind (arith, common_steps)
range_filter {X} key k (x ∷ xs) zero zero le few a b c d =
    let away : (key x == k) ≡ false = other (key x) k (λ e. absurd (omega (arith, d 0 x (omega arith) refl))) in
    let more = range_filter key k xs zero zero (omega arith) (omega arith) (λ n y lt e. absurd (omega arith)) (λ n y lt e. b (suc n) y (omega arith) e) (λ n y lt e. absurd (omega arith)) (λ n y lt e. d (suc n) y (omega arith) e) in
    more ∙ sym (ap (λ (t : Bool). cond t (x ∷ filter (λ (y : X). key y == k) xs) (filter (λ (y : X). key y == k) xs)) away)
range_filter {X} key k (x ∷ xs) zero (suc high) le few a b c d =
    let here : (key x == k) ≡ true = is_same (key x) k (omega (arith, b 0 x (omega arith) refl, c 0 x (omega arith) refl)) in
    let more = range_filter key k xs zero high (omega arith) (omega arith) (λ n y lt e. absurd (omega arith)) (λ n y lt e. b (suc n) y (omega arith) e) (λ n y lt e. c (suc n) y (omega arith) e) (λ n y lt e. d (suc n) y (omega arith) e) in
    let all : suc high - 0 ≡ suc high = omega arith in
    let rest : high ≡ high - 0 = omega arith in
    ap (λ (n : ℕ). take n (x ∷ xs)) all ∙ ap (λ (ys : List X). x ∷ ys) (ap (λ (n : ℕ). take n xs) rest ∙ more) ∙ sym (ap (λ (t : Bool). cond t (x ∷ filter (λ (y : X). key y == k) xs) (filter (λ (y : X). key y == k) xs)) here)
range_filter key k (x ∷ xs) (suc low) zero le few a b c d = absurd (omega arith)
range_filter {X} key k (x ∷ xs) (suc low) (suc high) le few a b c d =
    let away : (key x == k) ≡ false = other (key x) k (λ e. absurd (omega (arith, a 0 x (omega arith) refl))) in
    let more = range_filter key k xs low high (omega arith) (omega arith) (λ n y lt e. a (suc n) y (omega arith) e) (λ n y lt e. b (suc n) y (omega arith) e) (λ n y lt e. c (suc n) y (omega arith) e) (λ n y lt e. d (suc n) y (omega arith) e) in
    let less : suc high - suc low ≡ high - low = omega arith in
    ap (λ (n : ℕ). take n (drop low xs)) less ∙ more ∙ sym (ap (λ (t : Bool). cond t (x ∷ filter (λ (y : X). key y == k) xs) (filter (λ (y : X). key y == k) xs)) away)

rising : (walks : List WalkRecord) → StandByCommand walks → IsNonDecreasingBy (λ (w : WalkRecord). w.by.command) walks
rising walks h = IsNonDecreasingBy-from_all_adjacent (λ (w : WalkRecord). w.by.command) walks (below_of (λ (x y : WalkRecord). x.by.command ≤ y.by.command) walks h)

pub parted_below : (walks : List WalkRecord) (command : ℕ) → StandByCommand walks → IsPartitionedBy (λ (w : WalkRecord). nat_lt w.by.command command) walks
parted_below walks command h i j d le lt e = let up = rising walks h i j d le lt in grind (arith, nat_tests)

pub parted_up_to : (walks : List WalkRecord) (command : ℕ) → StandByCommand walks → IsPartitionedBy (λ (w : WalkRecord). nat_le w.by.command command) walks
parted_up_to walks command h i j d le lt e = let up = rising walks h i j d le lt in grind (arith, nat_tests)

-- none is of the key, if each before an index is below it and each from there on above it
pub none_filter : {X : Type 0} (key : X → ℕ) (k : ℕ) (xs : List X) (i : ℕ) → i ≤ length xs
    → ((n : ℕ) (x : X) → n < i → slice_get xs n ≡ Some x → key x < k) → ((n : ℕ) (x : X) → i ≤ n → slice_get xs n ≡ Some x → k < key x) → [] ≡ filter (λ (x : X). key x == k) xs
none_filter key k xs i few a d =
    let none : 0 ≡ i - i = omega arith in
    ap (λ (n : ℕ). take n (drop i xs)) none ∙ range_filter key k xs i i (omega arith) few a (λ n x le e. omega (arith, d n x le e)) (λ n x lt e. omega (arith, a n x lt e)) d
