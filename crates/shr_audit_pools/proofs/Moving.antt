-- SPDX-License-Identifier: GPL-2.0-only
-- What the passes of pools moved, try by try, and the deferred words that they leave.
use Rattle.shr_audit_pools.proofs.Common.{◌≡◌, ◌⊎◌, inl, inr, ℕ, zero, suc, ◌+◌, ◌<◌, ◌≤◌, Bool, true, false, cond, List, [], ◌∷◌, length, get_or, take, Option, Some, None, refl, sym, ap, subst, ◌∙◌, arith, ◌==◌, ◌&&◌, filter_map, flat_map, option_and_then, slice_get, sum_by, Decides, AllByRecursion, cons_option, enumerate_from, nat_tests, take_all, filter_map-append, sum_by-cons, PlaceAmount, WorkerPart, Place, PoolDecl, Script, PassRecord, PlainTry, PlainWalk, is_place, Report, HasNumbers, home_in, pool_place, IsPoolAmountWell, IsWellFormed, GainsAtEach, ArePoolWordsRight, moved_at, moved_by_worker, pass_next, nr_of, PoolPlace, named_place, sum_item, ◌↔◌, Decides-like, sum_by-append, sum_by_more, IsPartNumbered, IsPlainNumbered, pool_printed_at, pass_at, pass_in, pool_passes, IsAmountWell, IsNarrow, deferred_key, moved_in_try, said_of_pass}
use Rattle.std.proofs.lemmas.List.FromFn.{get_or-enumerate_from, length-enumerate_from}
use Rattle.shr_model.specs.Amounts.{amount_at, sum_at}
use Rattle.shr_model.specs.Deferred.{deferred_word}
use Rattle.shr_audit_case.specs.declared.moves.Move.{Move}
use Rattle.shr_audit_case.specs.Moves.{IsSettled, sum_down_at, sum_up_at}
use Rattle.shr_audit_case.proofs.WordsLaw.{words_law}
use Rattle.shr_audit_tables.proofs.Amounts.{IsWide, found_sum, narrow_or_wide, outside, small_sum, sum_none}
use Rattle.shr_audit_tables.proofs.Words.{none_printed}

-- ---- the tries of a walk

-- what the first so many tries of a walk moved at a place
abbrev pub tried_to : (PassRecord → ℕ) → Script → Place → PlainWalk → ℕ → ℕ
tried_to f s place w n = sum_by (λ (e : ℕ × PlainTry). moved_in_try f s place w e.0 e.1) (take n (enumerate_from 0 w.tries.items))

pub tried_none : (f : PassRecord → ℕ) (s : Script) (place : Place) (w : PlainWalk) → 0 ≡ tried_to f s place w 0
tried_none f s place w = none (enumerate_from 0 w.tries.items)
  where
    none : (es : List (ℕ × PlainTry)) → 0 ≡ sum_by (λ (e : ℕ × PlainTry). moved_in_try f s place w e.0 e.1) (take 0 es)
    none [] = refl
    none (e ∷ es) = refl

pub tried_more : (f : PassRecord → ℕ) (s : Script) (place : Place) (w : PlainWalk) (tries : List PlainTry) (i : ℕ) (d : PlainTry) → tries ≡ w.tries.items → i < length tries → tried_to f s place w (i + 1) ≡ tried_to f s place w i + moved_in_try f s place w i (get_or tries i d)
tried_more f s place w tries i d all lt =
    let within : i < length w.tries.items = subst (λ (xs : List PlainTry). i < length xs) all lt in
    let count = length-enumerate_from 0 w.tries.items in
    sum_by_more (λ (e : ℕ × PlainTry). moved_in_try f s place w e.0 e.1) (enumerate_from 0 w.tries.items) i (0, d) (omega (arith, within, count))
    ∙ ap (λ (e : ℕ × PlainTry). tried_to f s place w i + moved_in_try f s place w e.0 e.1) (get_or-enumerate_from 0 w.tries.items i (0, d) within ∙ here)
  where
    here : ◌≡◌ {A = ℕ × PlainTry} (0 + i, get_or w.tries.items i d) (i, get_or tries i d)
    here = ap (λ (k : ℕ). (k, get_or w.tries.items i d)) (let e : 0 + i ≡ i = omega arith in e) ∙ ap (λ (xs : List PlainTry). (i, get_or xs i d)) (sym all)

module _ (f : PassRecord → ℕ) (s : Script) (place : Place) (w : PlainWalk) where
  total : ℕ → List PlainTry → ℕ
  total k xs = sum_by (λ (e : ℕ × PlainTry). moved_in_try f s place w e.0 e.1) (enumerate_from k xs)

  own : Bool
  own = is_place place (pool_place s place.id w.node)

  away : (k : ℕ) (x : PlainTry) → (place.id ≡ k → ⊥) → moved_in_try f s place w k x ≡ 0
  away k x ne = ap (λ (b : Bool). cond b (said_of_pass f (pass_in x)) 0) (other (place.id == k) (place.node == home_in (slice_get s.pools.items k) w.node) (place.group == 0) (let n : (place.id == k) ≡ false = grind (arith, nat_tests) in n))
    where
      other : (a b c : Bool) → a ≡ false → (a && b && c) ≡ false
      other true b c e = absurd cc
      other false b c e = refl

  below : (k : ℕ) (xs : List PlainTry) → place.id < k → total k xs ≡ 0
  unfolding total
  below k [] lt = refl
  below k (x ∷ xs) lt =
      let here = away k x (λ e. omega (arith, e, lt)) in
      let more : total (k + 1) xs ≡ 0 = below (k + 1) xs (omega (arith, lt)) in
      sum_by-cons (λ (e : ℕ × PlainTry). moved_in_try f s place w e.0 e.1) (k, x) (enumerate_from (k + 1) xs) ∙ unfold total in omega (arith, here, more)

  found : (k j : ℕ) (xs : List PlainTry) → place.id ≡ k + j → total k xs ≡ cond own (said_of_pass f (option_and_then pass_in (slice_get xs j))) 0
  unfolding total own
  found k j [] e = none own
    where
      none : (b : Bool) → 0 ≡ cond b (said_of_pass f None) 0
      none true = refl
      none false = refl
  found k zero (x ∷ xs) e =
      let id : place.id ≡ k = omega (arith, e) in
      let here : moved_in_try f s place w k x ≡ cond own (said_of_pass f (pass_in x)) 0 = ap (λ (i : ℕ). cond (is_place place (pool_place s i w.node)) (said_of_pass f (pass_in x)) 0) (sym id) in
      let more : total (k + 1) xs ≡ 0 = below (k + 1) xs (omega (arith, id)) in
      sum_by-cons (λ (e : ℕ × PlainTry). moved_in_try f s place w e.0 e.1) (k, x) (enumerate_from (k + 1) xs) ∙ unfold total own in omega (arith, here, more)
  found k (suc j) (x ∷ xs) e =
      let here = away k x (λ d. omega (arith, d, e)) in
      let more : total (k + 1) xs ≡ cond own (said_of_pass f (option_and_then pass_in (slice_get xs j))) 0 = found (k + 1) j xs (omega (arith, e)) in
      sum_by-cons (λ (e : ℕ × PlainTry). moved_in_try f s place w e.0 e.1) (k, x) (enumerate_from (k + 1) xs) ∙ unfold total own in omega (arith, here, more)

  pub tried_all : (tries : List PlainTry) (i : ℕ) → tries ≡ w.tries.items → length tries ≤ i → moved_at f s place w ≡ tried_to f s place w i
  unfolding total own
  tried_all tries i all over =
      by own ∙ (sym (found 0 place.id w.tries.items (let e : place.id ≡ 0 + place.id = omega arith in e))
      ∙ ap (sum_by (λ (e : ℕ × PlainTry). moved_in_try f s place w e.0 e.1)) (sym (take_all i (enumerate_from 0 w.tries.items) (let c = length-enumerate_from 0 w.tries.items in let o : length w.tries.items ≤ i = subst (λ (xs : List PlainTry). length xs ≤ i) all over in omega (arith, c, o)))))
    where
      by : (b : Bool) → said_of_pass f (option_and_then pass_in (cond b (slice_get w.tries.items place.id) None)) ≡ cond b (said_of_pass f (option_and_then pass_in (slice_get w.tries.items place.id))) 0
      by true = refl
      by false = refl

-- with what the next try moved, at the place that the code found
pub moved_here : (f : PassRecord → ℕ) (s : Script) (place : Place) (w : PlainWalk) (tries : List PlainTry) (i : ℕ) (d : PlainTry) (p : PoolPlace) → named_place p ≡ pool_place s i w.node → tries ≡ w.tries.items → i < length tries
    → tried_to f s place w (i + 1) ≡ tried_to f s place w i + cond (is_place place (named_place p)) (said_of_pass f (pass_in (get_or tries i d))) 0
moved_here f s place w tries i d p home all lt =
    tried_more f s place w tries i d all lt ∙ ap (λ (q : Place). tried_to f s place w i + cond (is_place place q) (said_of_pass f (pass_in (get_or tries i d))) 0) (sym home)

pub sum_all : {X : Type 0} (f : X → ℕ) (xs ys : List X) (i : ℕ) → xs ≡ ys → length xs ≤ i → sum_by f ys ≡ sum_by f (take i xs)
sum_all {X} f xs ys i e over = ap (sum_by f) (sym e) ∙ sym (ap (sum_by f) (take_all i xs over))

-- ---- all workers

one_moved : (f : PassRecord → ℕ) (o : Option PassRecord) (ps : List PassRecord) → sum_by f (cons_option o ps) ≡ said_of_pass f o + sum_by f ps
one_moved f None ps = let e : sum_by f ps ≡ 0 + sum_by f ps = omega arith in e
one_moved f (Some p) ps = sum_by-cons f p ps

walks_moved : (f : PassRecord → ℕ) (s : Script) (place : Place) (ws : List PlainWalk) → sum_by f (filter_map (pass_at s place) ws) ≡ sum_by (moved_at f s place) ws
walks_moved f s place [] = refl
walks_moved f s place (w ∷ ws) =
    let more = walks_moved f s place ws in
    one_moved f (pass_at s place w) (filter_map (pass_at s place) ws) ∙ (ap (λ (n : ℕ). moved_at f s place w + n) more ∙ sym (sum_by-cons (moved_at f s place) w ws))

parts_moved : (f : PassRecord → ℕ) (s : Script) (place : Place) (parts : List WorkerPart) → sum_by f (filter_map (pass_at s place) (flat_map (λ (part : WorkerPart). part.plain.items) parts)) ≡ sum_by (moved_by_worker f s place) parts
parts_moved f s place [] = refl
parts_moved f s place (part ∷ parts) =
    ap (sum_by f) (filter_map-append (pass_at s place) part.plain.items (flat_map (λ (x : WorkerPart). x.plain.items) parts))
    ∙ (sum_by-append f (filter_map (pass_at s place) part.plain.items) (filter_map (pass_at s place) (flat_map (λ (x : WorkerPart). x.plain.items) parts))
    ∙ (ap (λ (n : ℕ). n + sum_by f (filter_map (pass_at s place) (flat_map (λ (x : WorkerPart). x.plain.items) parts))) (walks_moved f s place part.plain.items)
    ∙ (ap (λ (n : ℕ). moved_by_worker f s place part + n) (parts_moved f s place parts) ∙ sym (sum_by-cons (moved_by_worker f s place) part parts))))

-- ---- nothing at places that no pool has

no_pass : (f : PassRecord → ℕ) (s : Script) (place : Place) (w : PlainWalk) → IsWide place → w.node < 256 → moved_at f s place w ≡ 0
no_pass f s place w wide small =
    ap (λ (b : Bool). said_of_pass f (option_and_then pass_in (cond b (slice_get w.tries.items place.id) None))) (outside place (pool_place s place.id w.node) wide (home (slice_get s.pools.items place.id)) (let z : 0 < 65536 = omega arith in z))
  where
    by_flat : (b : Bool) → cond b 0 w.node < 256
    by_flat true = omega arith
    by_flat false = small

    home : (o : Option PoolDecl) → home_in o w.node < 256
    home None = small
    home (Some d) = by_flat d.flat

no_passes : (f : PassRecord → ℕ) (s : Script) (place : Place) (ws : List PlainWalk) → IsWide place → AllByRecursion IsPlainNumbered ws → AllByRecursion (λ (w : PlainWalk). moved_at f s place w ≡ 0) ws
no_passes f s place [] wide n = tt
no_passes f s place (w ∷ ws) wide n = (no_pass f s place w wide (let x = n.0.node in omega (arith, x)), no_passes f s place ws wide n.1)

none_moved : (f : PassRecord → ℕ) (s : Script) (place : Place) (parts : List WorkerPart) → IsWide place → AllByRecursion IsPartNumbered parts → AllByRecursion (λ (part : WorkerPart). moved_by_worker f s place part ≡ 0) parts
none_moved f s place [] wide n = tt
none_moved f s place (part ∷ parts) wide n = (sum_none (moved_at f s place) part.plain.items (no_passes f s place part.plain.items wide n.0.plain), none_moved f s place parts wide n.1)

amounts_well : (xs : List PlaceAmount) → AllByRecursion IsPoolAmountWell xs → AllByRecursion IsAmountWell xs
amounts_well [] h = tt
amounts_well (x ∷ xs) h = (h.0.amount, amounts_well xs h.1)

-- ---- the words

abbrev Words : Script → Report → Place → Type 0
Words s r p = sum_at p r.pool_deferred.items ≡ deferred_word (sum_by (moved_by_worker pass_next s p) r.workers.items) (sum_by (moved_by_worker nr_of s p) r.workers.items)

printed : (r : Report) (p : Place) → IsWellFormed r → sum_at p r.pool_deferred.items ≡ pool_printed_at r p
printed r p well = found_sum r.pool_deferred.items p (amounts_well r.pool_deferred.items well.pool_deferred) well.pool_order

same_words : (s : Script) (r : Report) (p : Place) → deferred_word (sum_by (λ (x : PassRecord). x.next) (pool_passes s r p)) (sum_by (λ (x : PassRecord). x.nr) (pool_passes s r p)) ≡ deferred_word (sum_by (moved_by_worker pass_next s p) r.workers.items) (sum_by (moved_by_worker nr_of s p) r.workers.items)
same_words s r p =
    ap (λ (n : ℕ). deferred_word n (sum_by (λ (x : PassRecord). x.nr) (pool_passes s r p))) (parts_moved pass_next s p r.workers.items)
    ∙ ap (deferred_word (sum_by (moved_by_worker pass_next s p) r.workers.items)) (parts_moved nr_of s p r.workers.items)

wide_words : (s : Script) (r : Report) (p : Place) → HasNumbers r → IsWide p → Words s r p
wide_words s r p numbers wide =
    sum_none (amount_at p) r.pool_deferred.items (none_printed p wide r.pool_deferred.items numbers.pool_deferred)
    ∙ sym (ap (λ (n : ℕ). deferred_word n (sum_by (moved_by_worker nr_of s p) r.workers.items)) (sum_none (moved_by_worker pass_next s p) r.workers.items (none_moved pass_next s p r.workers.items wide numbers.workers))
    ∙ ap (deferred_word 0) (sum_none (moved_by_worker nr_of s p) r.workers.items (none_moved nr_of s p r.workers.items wide numbers.workers)))

widened : (s : Script) (r : Report) → IsWellFormed r → HasNumbers r → ((p : Place) → IsNarrow p → Words s r p) → ArePoolWordsRight s r
widened s r well numbers law p = sym (printed r p well) ∙ (by (narrow_or_wide p) ∙ sym (same_words s r p))
  where
    by : IsNarrow p ⊎ IsWide p → Words s r p
    by (inl n) = law p n
    by (inr wide) = wide_words s r p numbers wide

narrowed : (s : Script) (r : Report) → IsWellFormed r → ArePoolWordsRight s r → (p : Place) → IsNarrow p → Words s r p
narrowed s r well law p n = printed r p well ∙ (law p ∙ same_words s r p)

gained : (s : Script) (words : List PlaceAmount) (parts : List WorkerPart) (a b c : List Move) → a ≡ [] → GainsAtEach (λ p. 0) (λ p. sum_at p words) a b
    → GainsAtEach (λ p. sum_by (moved_by_worker pass_next s p) parts) (λ p. sum_by (moved_by_worker nr_of s p) parts) b c
    → (p : Place) → IsNarrow p → (sum_up_at (deferred_key p) c ≡ sum_by (moved_by_worker pass_next s p) parts) × (sum_down_at (deferred_key p) c ≡ sum_at p words + sum_by (moved_by_worker nr_of s p) parts)
gained s words parts a b c e f g p n =
    let x = f p n in let y = g p n in
    let xu = x.ups in let yu = y.ups in let xd = x.downs in let yd = y.downs in
    let none : sum_up_at (deferred_key p) a ≡ 0 = ap (sum_up_at (deferred_key p)) e in
    let none_down : sum_down_at (deferred_key p) a ≡ 0 = ap (sum_down_at (deferred_key p)) e in
    (omega (arith, xu, yu, none), omega (arith, xd, yd, none_down))

pub words_decided : (s : Script) (r : Report) (words : List PlaceAmount) (parts : List WorkerPart) (a b c : List Move) (t : Bool) → IsWellFormed r → HasNumbers r → words ≡ r.pool_deferred.items → parts ≡ r.workers.items
    → a ≡ [] → GainsAtEach (λ p. 0) (λ p. sum_at p words) a b → GainsAtEach (λ p. sum_by (moved_by_worker pass_next s p) parts) (λ p. sum_by (moved_by_worker nr_of s p) parts) b c → ((t ≡ true) ↔ IsSettled c) → Decides t (ArePoolWordsRight s r)
words_decided s r words parts a b c t well numbers words_are parts_are none f g settled =
    let f' : GainsAtEach (λ p. 0) (λ p. sum_at p r.pool_deferred.items) a b = subst (λ (xs : List PlaceAmount). GainsAtEach (λ p. 0) (λ p. sum_at p xs) a b) words_are f in
    let g' : GainsAtEach (λ p. sum_by (moved_by_worker pass_next s p) r.workers.items) (λ p. sum_by (moved_by_worker nr_of s p) r.workers.items) b c =
    subst (λ (xs : List WorkerPart). GainsAtEach (λ p. sum_by (moved_by_worker pass_next s p) xs) (λ p. sum_by (moved_by_worker nr_of s p) xs) b c) parts_are g in
    Decides-like t (widened s r well numbers) (narrowed s r well)
    (words_law (λ p. sum_at p r.pool_deferred.items) (λ p. sum_by (moved_by_worker pass_next s p) r.workers.items) (λ p. sum_by (moved_by_worker nr_of s p) r.workers.items) c t
    (λ p. small_sum r.pool_deferred.items p (amounts_well r.pool_deferred.items well.pool_deferred) well.pool_order)
    (gained s r.pool_deferred.items r.workers.items a b c none f' g') settled)
