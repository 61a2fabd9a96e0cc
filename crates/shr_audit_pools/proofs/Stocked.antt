-- SPDX-License-Identifier: GPL-2.0-only
-- What is read of the journal of a pool.
use Rattle.shr_audit_pools.proofs.Common.{◌≡◌, ◌⊎◌, inl, inr, ℕ, zero, suc, ◌+◌, ◌<◌, ◌≤◌, Bool, true, false, cond, List, [], ◌∷◌, ◌++◌, length, map, get_or, take, Option, Some, None, refl, sym, ap, subst, ◌∙◌, arith, ◌==◌, ◌&&◌, filter_map, nat_lt, nat_le, option_to_list, slice_get, cons_option, enumerate_from, IsPartitionedBy, cases_lt, nat_tests, get_or_append_left, length-append, take_all, take_more, filter_map-append, IsNonDecreasingBy-from_all_adjacent, IsPartitionedBy-ltb, all_adjacent_from_non_decreasing, same_Some, slice_get-get_or, slice_get_within, get_or-append_seam, UnitsEnd, PlainEntry, Place, free_of, Report, ReclaimMade, units_entries, units_journal, EachItem, below_of, Reclaimed, journal_printed_at, AreStocksOf, all_reclaims, made_of_reclaim, ◌^◌, filter, IsNonDecreasingBy, IsStableByKey, ties, length-take, IsPartitionedBy-leb, slice_get_cases, IsPlainEntryNumbered, reclaim_by, adjacent_in, AreFree, AreReclaims, IsStockOf, StandByWalk, reclaimed_of, walk_key, reclaims_with_key, get_last}
use Rattle.std.specs.Ordering.{nat_cmp, is_lt}
use Rattle.shr_base.specs.declared.journals.PlainEntry.TheVariants.{Release, Grab, Reclaim}
use Rattle.shr_audit_pools.specs.declared.stock.Stock.{Stock}
use Rattle.shr_model.proofs.Numbers.{tie}

-- ---- how many units are free

pub count_more : (counts after : List ℕ) (i next : ℕ) → length counts ≡ i + 1 → after ≡ counts ++ next ∷ [] → length after ≡ i + 1 + 1
count_more counts after i next count pushed = ap length pushed ∙ (length-append counts (next ∷ []) ∙ ap (λ (n : ℕ). n + 1) count)

pub counts_more : (entries : List PlainEntry) (i next : ℕ) (counts after : List ℕ) → length counts ≡ i + 1 → ((n : ℕ) → n ≤ i → get_or counts n 0 ≡ free_of (take n entries))
    → after ≡ counts ++ next ∷ [] → next ≡ free_of (take (i + 1) entries) → (n : ℕ) → n ≤ i + 1 → get_or after n 0 ≡ free_of (take n entries)
counts_more entries i next counts after count each pushed then n le = by (cases_lt n (length counts))
  where
    by : (n < length counts) ⊎ (length counts ≤ n) → get_or after n 0 ≡ free_of (take n entries)
    by (inl lt) = ap (λ (xs : List ℕ). get_or xs n 0) pushed ∙ (get_or_append_left counts (next ∷ []) 0 n lt ∙ each n (omega (arith, lt, count)))
    by (inr ge) =
        let last : n ≡ length counts = omega (arith, ge, count, le) in
        let same : i + 1 ≡ n = omega (arith, last, count) in
        ap (λ (xs : List ℕ). get_or xs n 0) pushed ∙ (ap (λ (k : ℕ). get_or (counts ++ next ∷ []) k 0) last ∙ (get_or-append_seam counts next [] 0 ∙ (then ∙ ap (λ (k : ℕ). free_of (take k entries)) same)))

pub free_all : (entries : List PlainEntry) (i : ℕ) (counts : List ℕ) → length entries ≤ i → i ≤ length entries → length counts ≡ i + 1 → ((n : ℕ) → n ≤ i → get_or counts n 0 ≡ free_of (take n entries)) → AreFree entries counts
free_all entries i counts over under count each = record {
  count = omega (arith, over, under, count);
  each = λ n le. each n (omega (arith, le, over));
}

-- ---- the Reclaims of a journal

enumerate_push : {X : Type 0} (n : ℕ) (xs : List X) (x : X) → enumerate_from n (xs ++ x ∷ []) ≡ enumerate_from n xs ++ (n + length xs, x) ∷ []
enumerate_push {X} n [] x = ap (λ (k : ℕ). (k, x) ∷ enumerate_from (n + 1) []) (let e : n ≡ n + 0 = omega arith in e)
enumerate_push {X} n (y ∷ ys) x =
    ap (λ (zs : List (ℕ × X)). (n, y) ∷ zs) (enumerate_push (n + 1) ys x)
    ∙ ap (λ (k : ℕ). (n, y) ∷ (enumerate_from (n + 1) ys ++ (k, x) ∷ [])) (let e : n + 1 + length ys ≡ n + length (y ∷ ys) = omega arith in e)

one_option : (o : Option Reclaimed) → cons_option o [] ≡ option_to_list o
one_option None = refl
one_option (Some x) = refl

abbrev pick : ℕ × PlainEntry → Option Reclaimed
pick e = reclaimed_of e.0 e.1

pub reclaims_more : (entries : List PlainEntry) (i : ℕ) (d : PlainEntry) (xs after : List Reclaimed) → i < length entries → xs ≡ all_reclaims (take i entries)
    → after ≡ xs ++ option_to_list (reclaimed_of i (get_or entries i d)) → after ≡ all_reclaims (take (i + 1) entries)
reclaims_more entries i d xs after lt before pushed =
    let count : length (take i entries) ≡ i = (let l = length-take i entries in omega (arith, lt, l)) in
    let place : 0 + length (take i entries) ≡ i = omega (arith, count) in
    pushed ∙ (ap (λ (ys : List Reclaimed). ys ++ option_to_list (reclaimed_of i (get_or entries i d))) before
    ∙ (ap (λ (ys : List Reclaimed). all_reclaims (take i entries) ++ ys) (sym (one_option (reclaimed_of i (get_or entries i d))))
    ∙ (sym (filter_map-append pick (enumerate_from 0 (take i entries)) ((i, get_or entries i d) ∷ []))
    ∙ ap (filter_map pick) (sym (ap (enumerate_from 0) (take_more entries i d lt) ∙ (enumerate_push 0 (take i entries) (get_or entries i d)
    ∙ ap (λ (k : ℕ). enumerate_from 0 (take i entries) ++ (k, get_or entries i d) ∷ []) place))))))

pub reclaims_whole : (entries : List PlainEntry) (i : ℕ) (xs : List Reclaimed) → length entries ≤ i → xs ≡ all_reclaims (take i entries) → xs ≡ all_reclaims entries
reclaims_whole entries i xs over e = e ∙ ap all_reclaims (take_all i entries over)

-- ---- those of a walk

key_test : (worker walk w n : ℕ) → walk < 2 ^ 32 → n < 2 ^ 32 → (walk_key worker walk == walk_key w n) ≡ ((worker == w) && (walk == n))
key_test worker walk w n a b = grind (arith, nat_tests)

wide_test : (worker walk w n : ℕ) → walk < 2 ^ 32 → 2 ^ 32 ≤ n → ((worker == w) && (walk == n)) ≡ false
wide_test worker walk w n a b = by (worker == w) (walk == n) (let ne : (walk == n) ≡ false = grind (arith, nat_tests) in ne)
  where
    by : (a b : Bool) → b ≡ false → (a && b) ≡ false
    by true b f = f
    by false b f = refl

abbrev walked : ℕ → ℕ → ℕ × PlainEntry → Option ReclaimMade
walked w n e = reclaim_by w n e.0 e.1

picked : (b : Bool) (x : Reclaimed) (xs : List Reclaimed) (ys : List ReclaimMade) → map made_of_reclaim xs ≡ ys → map made_of_reclaim (cond b (x ∷ xs) xs) ≡ cons_option (cond b (Some (made_of_reclaim x)) None) ys
picked true x xs ys e = ap (λ (zs : List ReclaimMade). made_of_reclaim x ∷ zs) e
picked false x xs ys e = e

keyed_from : (w n k : ℕ) (es : List PlainEntry) → n < 2 ^ 32 → EachItem IsPlainEntryNumbered es → map made_of_reclaim (reclaims_with_key (walk_key w n) (filter_map pick (enumerate_from k es))) ≡ filter_map (walked w n) (enumerate_from k es)
keyed_from w n k [] small h = refl
keyed_from w n k (Release by units ∷ es) small h = keyed_from w n (k + 1) es small (λ i x at. h (suc i) x at)
keyed_from w n k (Grab by got ∷ es) small h = keyed_from w n (k + 1) es small (λ i x at. h (suc i) x at)
keyed_from w n k (Reclaim worker walk asked freed ∷ es) small h =
    let more = keyed_from w n (k + 1) es small (λ i x at. h (suc i) x at) in
    let x : Reclaimed = record { key = walk_key worker walk; number = k; asked = asked; freed = freed } in
    let fits = (h 0 (Reclaim worker walk asked freed) refl).1 in
    picked (walk_key worker walk == walk_key w n) x (reclaims_with_key (walk_key w n) (filter_map pick (enumerate_from (k + 1) es))) (filter_map (walked w n) (enumerate_from (k + 1) es)) more
    ∙ ap (λ (b : Bool). cons_option (cond b (Some (made_of_reclaim x)) None) (filter_map (walked w n) (enumerate_from (k + 1) es))) (key_test worker walk w n fits small)

far_from : (w n k : ℕ) (es : List PlainEntry) → 2 ^ 32 ≤ n → EachItem IsPlainEntryNumbered es → filter_map (walked w n) (enumerate_from k es) ≡ []
far_from w n k [] wide h = refl
far_from w n k (Release by units ∷ es) wide h = far_from w n (k + 1) es wide (λ i x at. h (suc i) x at)
far_from w n k (Grab by got ∷ es) wide h = far_from w n (k + 1) es wide (λ i x at. h (suc i) x at)
far_from w n k (Reclaim worker walk asked freed ∷ es) wide h =
    let fits = (h 0 (Reclaim worker walk asked freed) refl).1 in
    ap (λ (b : Bool). cons_option (cond b (Some (record { number = k; asked = asked; freed = freed })) None) (filter_map (walked w n) (enumerate_from (k + 1) es))) (wide_test worker walk w n fits wide)
    ∙ far_from w n (k + 1) es wide (λ i x at. h (suc i) x at)

-- those that tie with one of a key are those of the key
abbrev blank : ℕ → Reclaimed
blank key = record { key = key; number = 0; asked = 0; freed = 0 }

abbrev filter_ties : ℕ → List Reclaimed → List Reclaimed
filter_ties key xs = filter (ties (λ (x y : Reclaimed). is_lt (nat_cmp x.key y.key)) (blank key)) xs

tied : (key : ℕ) (xs : List Reclaimed) → filter_ties key xs ≡ reclaims_with_key key xs
tied key [] = refl
tied key (x ∷ xs) =
    ap (λ (b : Bool). cond b (x ∷ filter_ties key xs) (filter_ties key xs)) (tie key x.key)
    ∙ ap (λ (ys : List Reclaimed). cond (x.key == key) (x ∷ ys) ys) (tied key xs)

-- a stable sort by the walk keeps those of each walk in order
pub reclaims_sorted : (entries : List PlainEntry) (xs ys : List Reclaimed) → EachItem IsPlainEntryNumbered entries → xs ≡ all_reclaims entries → IsNonDecreasingBy (λ (x : Reclaimed). x.key) ys → IsStableByKey (λ (x : Reclaimed). x.key) nat_cmp xs ys → AreReclaims entries ys
reclaims_sorted entries xs ys numbered all up stable = record {
  stand = adjacent_in (λ (x y : Reclaimed). x.key ≤ y.key) ys (all_adjacent_from_non_decreasing (λ (x : Reclaimed). x.key) ys up);
  each = λ worker walk small.
      ap (map made_of_reclaim) (sym (tied (walk_key worker walk) ys) ∙ (stable (blank (walk_key worker walk)) ∙ (tied (walk_key worker walk) xs ∙ ap (reclaims_with_key (walk_key worker walk)) all)))
      ∙ keyed_from worker walk 0 entries small numbered;
  far = λ worker walk wide. far_from worker walk 0 entries wide numbered;
}

-- ---- found again by the walk

pub parted_below : (xs : List Reclaimed) (key : ℕ) → StandByWalk xs → IsPartitionedBy (λ (x : Reclaimed). nat_lt x.key key) xs
parted_below xs key h = IsPartitionedBy-ltb (λ (x : Reclaimed). x.key) xs key (IsNonDecreasingBy-from_all_adjacent (λ (x : Reclaimed). x.key) xs (below_of (λ (x y : Reclaimed). x.key ≤ y.key) xs h))

pub parted_up_to : (xs : List Reclaimed) (key : ℕ) → StandByWalk xs → IsPartitionedBy (λ (x : Reclaimed). nat_le x.key key) xs
parted_up_to xs key h = IsPartitionedBy-leb (λ (x : Reclaimed). x.key) xs key (IsNonDecreasingBy-from_all_adjacent (λ (x : Reclaimed). x.key) xs (below_of (λ (x y : Reclaimed). x.key ≤ y.key) xs h))

-- ---- lists that grow

get_first : {X : Type 0} (xs ys : List X) (k : ℕ) → k < length xs → slice_get (xs ++ ys) k ≡ slice_get xs k
get_first [] ys k lt = absurd (omega (arith, lt))
get_first (x ∷ xs) ys zero lt = refl
get_first (x ∷ xs) ys (suc k) lt = get_first xs ys k (omega (arith, lt))

within_one : (k n m : ℕ) → n ≤ k → k < m → m ≡ n + 1 → k ≡ n
within_one k n m ge lt e = omega (arith, ge, lt, e)

-- ---- those of all journals

pub stocks_more : (ends : List UnitsEnd) (i : ℕ) (u : UnitsEnd) (es : List PlainEntry) (stocks after : List Stock) (x : Stock) → i < length ends → u ≡ get_or ends i u → es ≡ u.entries.items → after ≡ stocks ++ x ∷ [] → IsStockOf es x
    → AreStocksOf (take i ends) stocks → AreStocksOf (take (i + 1) ends) after
stocks_more ends i u es stocks after x lt is own pushed here before = record {
  count = ap length pushed ∙ (length-append stocks (x ∷ []) ∙ (ap (λ (n : ℕ). n + 1) before.count ∙ sym (ap length next ∙ length-append (take i ends) (u ∷ []))));
  each = λ k v y at_k stock_k. by k v y (ap (λ (us : List UnitsEnd). slice_get us k) (sym next) ∙ at_k) (ap (λ (xs : List Stock). slice_get xs k) (sym pushed) ∙ stock_k) (cases_lt k (length stocks));
}
  where
    next : take (i + 1) ends ≡ take i ends ++ u ∷ []
    next = take_more ends i u lt ∙ ap (λ (v : UnitsEnd). take i ends ++ v ∷ []) (sym is)

    by : (k : ℕ) (v : UnitsEnd) (y : Stock) → slice_get (take i ends ++ u ∷ []) k ≡ Some v → slice_get (stocks ++ x ∷ []) k ≡ Some y → (k < length stocks) ⊎ (length stocks ≤ k) → IsStockOf v.entries.items y
    by k v y at_k stock_k (inl less) = before.each k v y (sym (get_first (take i ends) (u ∷ []) k (subst (λ (n : ℕ). k < n) before.count less)) ∙ at_k) (sym (get_first stocks (x ∷ []) k less) ∙ stock_k)
    by k v y at_k stock_k (inr ge) =
        let bound = slice_get_within (stocks ++ x ∷ []) k y stock_k in
        let count = length-append stocks (x ∷ []) in
        let last : k ≡ length stocks = within_one k (length stocks) (length (stocks ++ x ∷ [])) ge bound count in
        let last_u : k ≡ length (take i ends) = last ∙ before.count in
        let same_u : u ≡ v = same_Some u v (sym (get_last (take i ends) u) ∙ (ap (slice_get (take i ends ++ u ∷ [])) (sym last_u) ∙ at_k)) in
        let same_x : x ≡ y = same_Some x y (sym (get_last stocks x) ∙ (ap (slice_get (stocks ++ x ∷ [])) (sym last) ∙ stock_k)) in
        subst (λ (z : Stock). IsStockOf v.entries.items z) same_x (subst (λ (zs : List PlainEntry). IsStockOf zs x) (own ∙ ap (λ (z : UnitsEnd). z.entries.items) same_u) here)

-- what was read of the journal of a place is that of its journal
pub stock_at : (r : Report) (ends : List UnitsEnd) (stocks : List Stock) (p : Place) (k : ℕ) (x : Stock) → ends ≡ r.units.items → AreStocksOf r.units.items stocks → k < length ends → slice_get ends k ≡ journal_printed_at ends p → x ≡ get_or stocks k x → IsStockOf (units_journal r p) x
stock_at r ends stocks p k x all h lt found is = by (slice_get_cases r.units.items k).1
  where
    within : k < length r.units.items
    within = subst (λ (us : List UnitsEnd). k < length us) all lt

    here : slice_get r.units.items k ≡ journal_printed_at r.units.items p
    here = subst (λ (us : List UnitsEnd). slice_get us k ≡ journal_printed_at us p) all found

    stock_k : slice_get stocks k ≡ Some x
    stock_k = slice_get-get_or stocks k x (let c = h.count in let w = within in omega (arith, c, w)) ∙ ap (λ (y : Stock). Some y) (sym is)

    by : ((u : UnitsEnd) × (k < length r.units.items) × (slice_get r.units.items k ≡ Some u) × (get_or r.units.items k u ≡ u)) ⊎ ((length r.units.items ≤ k) × (slice_get r.units.items k ≡ None)) → IsStockOf (units_journal r p) x
    by (inl u) = subst (λ (o : Option UnitsEnd). IsStockOf (units_entries o) x) (sym u.2 ∙ here) (h.each k u.0 x u.2 stock_k)
    by (inr past) = absurd (let w = within in let o = past.0 in omega (arith, w, o))
