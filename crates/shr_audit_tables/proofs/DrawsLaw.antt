-- SPDX-License-Identifier: GPL-2.0-only
-- The lookups that were drawn settle with those that are wanted if and only if each number was drawn once.
use Rattle.shr_audit_tables.proofs.Common.{◌≡◌, ◌≢◌, ℕ, zero, suc, ◌+◌, ◌/◌, ◌%◌, ◌^◌, ◌<◌, ◌≤◌, ◌⊎◌, inl, inr, Bool, true, false, cond, List, [], ◌∷◌, ◌++◌, length, get_or, map, take, refl, sym, ap, subst, ◌∙◌, arith, ◌↔◌, ◌==◌, nat_lt, count_by, filter, sum, sum_by, slice_index, Decides, AllByRecursion, range_with_len, cases_lt, cases_order, nat_tests, take_all, sum_by-cons, sum_by-append, sum_by_more, slice_get-get_or, EachItem, Move, sum_up_at, sum_down_at, IsSettled, AreDrawnOnce, draw_key, drawn_move, wanted_move, wanted_from, eqb, ◌||◌, list_any, length-map, length-filter, count_by-le-length}
use Rattle.std.proofs.lemmas.Map.Steps.{le-length_from_below}
use Rattle.shr_model.proofs.Booleans.{bit_small, nothing}

-- ---- the moves

drawn_up : (k : ℕ) (ks : List ℕ) → sum_up_at k (map drawn_move ks) ≡ count_by (λ x. x == k) ks
drawn_up k [] = refl
drawn_up k (x ∷ ks) = sum_by-cons (λ (m : Move). cond (m.key == k) m.up 0) (drawn_move x) (map drawn_move ks) ∙ ap (λ (n : ℕ). cond (x == k) 1 0 + n) (drawn_up k ks) ∙ sym (sum_by-cons (λ (y : ℕ). cond (y == k) 1 0) x ks)

drawn_down : (k : ℕ) (ks : List ℕ) → sum_down_at k (map drawn_move ks) ≡ 0
drawn_down k [] = refl
drawn_down k (x ∷ ks) = let none = nothing (x == k) in let more = drawn_down k ks in sum_by-cons (λ (m : Move). cond (m.key == k) m.down 0) (drawn_move x) (map drawn_move ks) ∙ omega (arith, none, more)

range_up : (k i a l : ℕ) → sum_up_at k (map (λ n. wanted_move (draw_key i n)) (range_with_len a l)) ≡ 0
range_up k i a zero = refl
range_up k i a (suc l) = let none = nothing (draw_key i a == k) in let more = range_up k i (a + 1) l in sum_by-cons (λ (m : Move). cond (m.key == k) m.up 0) (wanted_move (draw_key i a)) (map (λ n. wanted_move (draw_key i n)) (range_with_len (a + 1) l)) ∙ omega (arith, none, more)

wanted_up : (k i : ℕ) (ls : List ℕ) → sum_up_at k (wanted_from i ls) ≡ 0
wanted_up k i [] = refl
wanted_up k i (l ∷ ls) = let first = range_up k i 0 l in let more = wanted_up k (i + 1) ls in sum_by-append (λ (m : Move). cond (m.key == k) m.up 0) (map (λ n. wanted_move (draw_key i n)) (range_with_len 0 l)) (wanted_from (i + 1) ls) ∙ omega (arith, first, more)

other_key : (id n i m : ℕ) → n < 4294967296 → m < 4294967296 → i ≢ id → (draw_key i m == draw_key id n) ≡ false
other_key id n i m small low ne = by_bool (draw_key i m == draw_key id n) refl
  where
    by_bool : (b : Bool) → (draw_key i m == draw_key id n) ≡ b → (draw_key i m == draw_key id n) ≡ false
    by_bool true e = let same : draw_key i m ≡ draw_key id n = grind (arith, nat_tests) in absurd (ne (omega (arith, same)))
    by_bool false e = e

range_other : (id n i a l : ℕ) → n < 4294967296 → a + l ≤ 4294967296 → i ≢ id → sum_down_at (draw_key id n) (map (λ n. wanted_move (draw_key i n)) (range_with_len a l)) ≡ 0
range_other id n i a zero small low ne = refl
range_other id n i a (suc l) small low ne =
    let key = draw_key id n in
    let apart = other_key id n i a small (omega arith) ne in
    let more = range_other id n i (a + 1) l small (omega arith) ne in
    sum_by-cons (λ (m : Move). cond (m.key == key) m.down 0) (wanted_move (draw_key i a)) (map (λ n. wanted_move (draw_key i n)) (range_with_len (a + 1) l)) ∙ rw apart (omega (arith, more))

range_own : (n i a l : ℕ) → sum_down_at (draw_key i n) (map (λ n. wanted_move (draw_key i n)) (range_with_len a l)) ≡ cond (nat_lt n a) 0 (cond (nat_lt n (a + l)) 1 0)
range_own n i a zero = none (cases_lt n a)
  where
    none : (n < a) ⊎ (a ≤ n) → ◌≡◌ {A = ℕ} 0 (cond (nat_lt n a) 0 (cond (nat_lt n (a + 0)) 1 0))
    none (inl lt) = let t : nat_lt n a ≡ true = grind (arith, nat_tests) in rw t refl
    none (inr ge) = let t : nat_lt n a ≡ false = grind (arith, nat_tests) in let u : nat_lt n (a + 0) ≡ false = grind (arith, nat_tests) in rw (t, u) refl
range_own n i a (suc l) =
    let key = draw_key i n in
    sum_by-cons (λ (m : Move). cond (m.key == key) m.down 0) (wanted_move (draw_key i a)) (map (λ n. wanted_move (draw_key i n)) (range_with_len (a + 1) l)) ∙ ap (λ (k : ℕ). cond (draw_key i a == key) 1 0 + k) (range_own n i (a + 1) l) ∙ step (cases_order n a)
  where
    step : (n ≡ a) ⊎ ((n < a) ⊎ (a < n)) → cond (draw_key i a == draw_key i n) 1 0 + cond (nat_lt n (a + 1)) 0 (cond (nat_lt n ((a + 1) + l)) 1 0) ≡ cond (nat_lt n a) 0 (cond (nat_lt n (a + suc l)) 1 0)
    step (inl same) =
        let k : (draw_key i a == draw_key i n) ≡ true = rw same (own (draw_key i a)) in
        let t : nat_lt n (a + 1) ≡ true = grind (arith, nat_tests) in let u : nat_lt n a ≡ false = grind (arith, nat_tests) in let v : nat_lt n (a + suc l) ≡ true = grind (arith, nat_tests) in rw (k, t, u, v) refl
      where
        own : (k : ℕ) → (k == k) ≡ true
        own k = grind (arith, nat_tests)
    step (inr (inl less)) =
        let k : (draw_key i a == draw_key i n) ≡ false = keys_apart in
        let t : nat_lt n (a + 1) ≡ true = grind (arith, nat_tests) in let u : nat_lt n a ≡ true = grind (arith, nat_tests) in rw (k, t, u) refl
      where
        keys_apart : (draw_key i a == draw_key i n) ≡ false
        keys_apart = let ne : draw_key i a ≢ draw_key i n = λ e. absurd (omega (arith, e, less)) in grind (arith, nat_tests, ne)
    step (inr (inr more)) =
        let k : (draw_key i a == draw_key i n) ≡ false = keys_apart in
        let t : nat_lt n (a + 1) ≡ false = grind (arith, nat_tests) in let u : nat_lt n a ≡ false = grind (arith, nat_tests) in
        let v : (a + 1) + l ≡ a + suc l = omega arith in rw (k, t, u, v) (omega arith)
      where
        keys_apart : (draw_key i a == draw_key i n) ≡ false
        keys_apart = let ne : draw_key i a ≢ draw_key i n = λ e. absurd (omega (arith, e, more)) in grind (arith, nat_tests, ne)

wanted_low : (id n i : ℕ) (ls : List ℕ) → n < 4294967296 → AllByRecursion (λ (l : ℕ). l < 2 ^ 32) ls → id < i → sum_down_at (draw_key id n) (wanted_from i ls) ≡ 0
wanted_low id n i [] small low lt = refl
wanted_low id n i (l ∷ ls) small low lt =
    let key = draw_key id n in
    let count = low.0 in
    let first = range_other id n i 0 l small (omega (arith, count)) (λ e. absurd (omega (arith, e, lt))) in
    let more = wanted_low id n (i + 1) ls small low.1 (omega (arith, lt)) in
    sum_by-append (λ (m : Move). cond (m.key == key) m.down 0) (map (λ n. wanted_move (draw_key i n)) (range_with_len 0 l)) (wanted_from (i + 1) ls) ∙ omega (arith, first, more)

wanted_down : (id n i j : ℕ) (ls : List ℕ) → id ≡ i + j → n < 4294967296 → AllByRecursion (λ (l : ℕ). l < 2 ^ 32) ls → sum_down_at (draw_key id n) (wanted_from i ls) ≡ cond (nat_lt n (slice_index ls j)) 1 0
wanted_down id n i j [] e small low = let t : nat_lt n 0 ≡ false = grind (arith, nat_tests) in sym (rw t refl)
wanted_down id n i zero (l ∷ ls) e small low =
    let key = draw_key id n in
    let same : id ≡ i = omega (arith, e) in
    let first : sum_down_at key (map (λ n. wanted_move (draw_key i n)) (range_with_len 0 l)) ≡ cond (nat_lt n 0) 0 (cond (nat_lt n (0 + l)) 1 0) = subst (λ (k : ℕ). sum_down_at (draw_key k n) (map (λ n. wanted_move (draw_key i n)) (range_with_len 0 l)) ≡ cond (nat_lt n 0) 0 (cond (nat_lt n (0 + l)) 1 0)) (sym same) (range_own n i 0 l) in
    let t : nat_lt n 0 ≡ false = grind (arith, nat_tests) in
    let z : 0 + l ≡ l = omega arith in
    let here : sum_down_at key (map (λ n. wanted_move (draw_key i n)) (range_with_len 0 l)) ≡ cond (nat_lt n l) 1 0 = rw (t, z) at first in
    let more = wanted_low id n (i + 1) ls small low.1 (omega (arith, same)) in
    sum_by-append (λ (m : Move). cond (m.key == key) m.down 0) (map (λ n. wanted_move (draw_key i n)) (range_with_len 0 l)) (wanted_from (i + 1) ls) ∙ omega (arith, here, more)
wanted_down id n i (suc j) (l ∷ ls) e small low =
    let key = draw_key id n in
    let count = low.0 in
    let first = range_other id n i 0 l small (omega (arith, count)) (λ s. absurd (omega (arith, s, e))) in
    let more = wanted_down id n (i + 1) j ls (omega (arith, e)) small low.1 in
    sum_by-append (λ (m : Move). cond (m.key == key) m.down 0) (map (λ n. wanted_move (draw_key i n)) (range_with_len 0 l)) (wanted_from (i + 1) ls) ∙ omega (arith, first, more)

-- ---- settled

each_all : (P : ℕ → Type 0) (xs : List ℕ) → EachItem P xs → AllByRecursion P xs
each_all P [] h = tt
each_all P (x ∷ xs) h = (h 0 x refl, each_all P xs (λ n y e. h (suc n) y e))

all_up : (k : ℕ) (keys lookups : List ℕ) (a b c : List Move) → a ≡ [] → b ≡ a ++ map drawn_move keys → c ≡ b ++ wanted_from 0 lookups → sum_up_at k c ≡ count_by (λ x. x == k) keys
all_up k keys lookups a b c none draws wants =
    let value = λ (m : Move). cond (m.key == k) m.up 0 in
    let first = ap (sum_by value) (draws ∙ ap (λ (l : List Move). l ++ map drawn_move keys) none) ∙ drawn_up k keys in
    let second = wanted_up k 0 lookups in
    ap (sum_by value) wants ∙ sum_by-append value b (wanted_from 0 lookups) ∙ omega (arith, first, second)

all_down : (id n : ℕ) (keys lookups : List ℕ) (a b c : List Move) → a ≡ [] → b ≡ a ++ map drawn_move keys → c ≡ b ++ wanted_from 0 lookups → n < 4294967296 → EachItem (λ (l : ℕ). l < 2 ^ 32) lookups → sum_down_at (draw_key id n) c ≡ cond (nat_lt n (slice_index lookups id)) 1 0
all_down id n keys lookups a b c none draws wants small low =
    let value = λ (m : Move). cond (m.key == draw_key id n) m.down 0 in
    let first = ap (sum_by value) (draws ∙ ap (λ (l : List Move). l ++ map drawn_move keys) none) ∙ drawn_down (draw_key id n) keys in
    let second = wanted_down id n 0 id lookups (omega arith) small (each_all (λ (l : ℕ). l < 2 ^ 32) lookups low) in
    ap (sum_by value) wants ∙ sum_by-append value b (wanted_from 0 lookups) ∙ omega (arith, first, second)

pub once_decided : (keys lookups : List ℕ) (a b c : List Move) (t : Bool) → length keys < 2 ^ 64 → EachItem (λ (l : ℕ). l < 2 ^ 32) lookups → a ≡ [] → b ≡ a ++ map drawn_move keys → c ≡ b ++ wanted_from 0 lookups → ((t ≡ true) ↔ IsSettled c) → Decides t (AreDrawnOnce keys lookups)
once_decided keys lookups a b c t short low none draws wants settled = (λ s. yes (settled.0 s), λ law. settled.1 (no law))
  where
    yes : IsSettled c → AreDrawnOnce keys lookups
    yes s id n small =
        let e = s (draw_key id n) in
        let up = all_up (draw_key id n) keys lookups a b c none draws wants in
        let down = all_down id n keys lookups a b c none draws wants (omega (arith, small)) low in
        let few = count_by-le-length (λ (x : ℕ). x == draw_key id n) keys in
        let one = bit_small (nat_lt n (slice_index lookups id)) in
        let f = rw (up, down) at e in omega (arith, f, few, one, short)

    no : AreDrawnOnce keys lookups → IsSettled c
    no law k =
        let id = k / 4294967296 in let n = k % 4294967296 in
        let again : draw_key id n ≡ k = omega arith in
        let small : n < 4294967296 = omega arith in
        let up = all_up (draw_key id n) keys lookups a b c none draws wants in
        let down = all_down id n keys lookups a b c none draws wants small low in
        let same = law id n small in
        subst (λ (j : ℕ). sum_up_at j c % 2 ^ 64 ≡ sum_down_at j c % 2 ^ 64) again (ap (λ (m : ℕ). m % 2 ^ 64) (up ∙ same ∙ sym down))

-- ---- no more lookups than draws

-- the numbers of the draws of an id
abbrev numbers_of : ℕ → List ℕ → List ℕ
numbers_of id ks = map (λ k. k % 4294967296) (filter (λ k. (k / 4294967296) == id) ks)

kept_or_not : (id q k : ℕ) (ks : List ℕ) (b : Bool) → list_any (eqb q) (numbers_of id ks) ≡ true → list_any (eqb q) (map (λ k. k % 4294967296) (cond b (k ∷ filter (λ k. (k / 4294967296) == id) ks) (filter (λ k. (k / 4294967296) == id) ks))) ≡ true
kept_or_not id q k ks true h = by_head (eqb q (k % 4294967296))
  where
    by_head : (b : Bool) → (b || list_any (eqb q) (numbers_of id ks)) ≡ true
    by_head true = refl
    by_head false = h
kept_or_not id q k ks false h = h

any_more : (id q k : ℕ) (ks : List ℕ) → q < 4294967296 → (b : Bool) → (k == draw_key id q) ≡ b → 0 < cond (k == draw_key id q) 1 0 + count_by (λ k. k == draw_key id q) ks → (0 < count_by (λ k. k == draw_key id q) ks → list_any (eqb q) (numbers_of id ks) ≡ true)
    → list_any (eqb q) (map (λ k. k % 4294967296) (cond ((k / 4294967296) == id) (k ∷ filter (λ k. (k / 4294967296) == id) ks) (filter (λ k. (k / 4294967296) == id) ks))) ≡ true
any_more id q k ks small true e some later =
    let same : k ≡ draw_key id q = grind (arith, nat_tests) in
    let row : (k / 4294967296) ≡ id = omega (arith, same, small) in
    let column : q ≡ k % 4294967296 = omega (arith, same, small) in
    let here : ((k / 4294967296) == id) ≡ true = grind (arith, nat_tests) in
    let head : eqb q (k % 4294967296) ≡ true = grind (arith, nat_tests) in
    rw here (rw head refl)
any_more id q k ks small false e some later = kept_or_not id q k ks ((k / 4294967296) == id) (later (let s = rw e at some in omega (arith, s)))

any_drawn : (id q : ℕ) (keys : List ℕ) → q < 4294967296 → 0 < count_by (λ k. k == draw_key id q) keys → list_any (eqb q) (numbers_of id keys) ≡ true
any_drawn id q [] small some = absurd (omega (arith, some))
any_drawn id q (k ∷ ks) small some =
    let sums = sum_by-cons (λ (y : ℕ). cond (y == draw_key id q) 1 0) k ks in
    any_more id q k ks small (k == draw_key id q) refl (omega (arith, sums, some)) (any_drawn id q ks small)

lookups_few : (id : ℕ) (keys lookups : List ℕ) → EachItem (λ (l : ℕ). l < 2 ^ 32) lookups → id < length lookups → AreDrawnOnce keys lookups → get_or lookups id 0 ≤ count_by (λ k. (k / 4294967296) == id) keys
lookups_few id keys lookups low lt law =
    let l = get_or lookups id 0 in
    let small = low id l (slice_get-get_or lookups id 0 lt) in
    let xs = map (λ (k : ℕ). k % 4294967296) (filter (λ (k : ℕ). (k / 4294967296) == id) keys) in
    let bound = le-length_from_below xs l (λ q less. any_drawn id q keys (omega (arith, small, less)) (let e = law id q (omega (arith, small, less)) in let t : nat_lt q l ≡ true = grind (arith, nat_tests) in let f : count_by (λ k. k == draw_key id q) keys ≡ 1 = rw t at e in omega (arith, f))) in
    let len = length-map (filter (λ (k : ℕ). (k / 4294967296) == id) keys) (λ (k : ℕ). k % 4294967296) in
    let kept = length-filter (λ (k : ℕ). (k / 4294967296) == id) keys in
    omega (arith, bound, len, kept)

row_more : (n : ℕ) (keys : List ℕ) → count_by (λ k. nat_lt (k / 4294967296) (suc n)) keys ≡ count_by (λ k. nat_lt (k / 4294967296) n) keys + count_by (λ k. (k / 4294967296) == n) keys
row_more n [] = refl
row_more n (k ∷ ks) =
    let a = sum_by-cons (λ (k : ℕ). cond (nat_lt (k / 4294967296) (suc n)) 1 0) k ks in
    let b = sum_by-cons (λ (k : ℕ). cond (nat_lt (k / 4294967296) n) 1 0) k ks in
    let c = sum_by-cons (λ (k : ℕ). cond ((k / 4294967296) == n) 1 0) k ks in
    let here = one (k / 4294967296) in
    let more = row_more n ks in omega (arith, a, b, c, here, more)
  where
    one : (q : ℕ) → cond (nat_lt q (suc n)) 1 0 ≡ cond (nat_lt q n) 1 0 + cond (q == n) 1 0
    one q = by_order (cases_order q n)
      where
        by_order : (q ≡ n) ⊎ ((q < n) ⊎ (n < q)) → cond (nat_lt q (suc n)) 1 0 ≡ cond (nat_lt q n) 1 0 + cond (q == n) 1 0
        by_order (inl e) = let a : nat_lt q (suc n) ≡ true = grind (arith, nat_tests) in let b : nat_lt q n ≡ false = grind (arith, nat_tests) in let c : (q == n) ≡ true = grind (arith, nat_tests) in rw (a, b, c) refl
        by_order (inr (inl e)) = let a : nat_lt q (suc n) ≡ true = grind (arith, nat_tests) in let b : nat_lt q n ≡ true = grind (arith, nat_tests) in let c : (q == n) ≡ false = grind (arith, nat_tests) in rw (a, b, c) refl
        by_order (inr (inr e)) = let a : nat_lt q (suc n) ≡ false = grind (arith, nat_tests) in let b : nat_lt q n ≡ false = grind (arith, nat_tests) in let c : (q == n) ≡ false = grind (arith, nat_tests) in rw (a, b, c) refl

few_upto : (keys lookups : List ℕ) → EachItem (λ (l : ℕ). l < 2 ^ 32) lookups → AreDrawnOnce keys lookups → (n : ℕ) → n ≤ length lookups → sum (take n lookups) ≤ count_by (λ k. nat_lt (k / 4294967296) n) keys
few_upto keys lookups low law zero le = omega arith
few_upto keys lookups low law (suc n) le =
    let before = few_upto keys lookups low law n (omega (arith, le)) in
    let more = let m = sum_by_more (λ (x : ℕ). x) lookups n 0 (omega (arith, le)) in let s : n + 1 ≡ suc n = omega arith in rw s at m in
    let here = lookups_few n keys lookups low (omega (arith, le)) law in
    let rows = row_more n keys in omega (arith, before, more, here, rows)

-- lookups that are drawn once each are no more than the draws
pub few_drawn : (keys lookups : List ℕ) → EachItem (λ (l : ℕ). l < 2 ^ 32) lookups → AreDrawnOnce keys lookups → sum lookups ≤ length keys
few_drawn keys lookups low law =
    let all = few_upto keys lookups low law (length lookups) (omega arith) in
    let whole : sum (take (length lookups) lookups) ≡ sum lookups = ap (sum_by (λ (x : ℕ). x)) (take_all (length lookups) lookups (omega arith)) in
    let bound = count_by-le-length (λ (k : ℕ). nat_lt (k / 4294967296) (length lookups)) keys in omega (arith, all, whole, bound)
