-- SPDX-License-Identifier: GPL-2.0-only
-- The ids that the maps of several units show.
use Rattle.shr_model.proofs.Common.{◌≡◌, ℕ, zero, suc, ◌+◌, ◌*◌, ◌<◌, ◌≤◌, Bool, true, false, cond, List, [], ◌∷◌, ◌++◌, length, map, take, sym, ap, subst, ◌∙◌, arith, length-append, filter, flat_map, AllByRecursion, range_with_len, set_bits_of, ids_in, unit_of, is_set}
use Rattle.std.proofs.Math.Seq.{take-append_seam}
use Rattle.std.proofs.lemmas.Grind.{flat_map-append}
use Rattle.shr_base.specs.declared.walks.MapSeen.{MapSeen}
use Rattle.shr_model.proofs.BagLaws.{each_append, each_weaker}

-- each number is above all before it
abbrev pub Rise : List ℕ → Type 0
Rise [] = Unit {0}
Rise (x ∷ xs) = AllByRecursion (λ y. x < y) xs × Rise xs

-- one list that rises after another whose numbers are all below a bound
rise_append : (n : ℕ) (xs ys : List ℕ) → AllByRecursion (λ x. x < n) xs → AllByRecursion (λ y. n ≤ y) ys → Rise xs → Rise ys → Rise (xs ++ ys)
rise_append n [] ys low high r s = s
rise_append n (x ∷ xs) ys low high r s = (
  each_append (λ y. x < y) xs ys r.0 (each_weaker (λ y. n ≤ y) (λ y. x < y) (λ y p. let q = low.0 in omega (arith, p, q)) ys high),
  rise_append n xs ys low.1 high r.1 s,
)

-- the set bits of a word, from one on
all_set : (bits a n : ℕ) → AllByRecursion (λ x. (a ≤ x) × (x < a + n)) (filter (is_set bits) (range_with_len a n))
all_set bits a zero = tt
all_set bits a (suc n) =
    let rest = each_weaker (λ x. (a + 1 ≤ x) × (x < a + 1 + n)) (λ x. (a ≤ x) × (x < a + suc n)) (λ x p. let q = p.0 in let r = p.1 in (omega (arith, q), omega (arith, r))) (filter (is_set bits) (range_with_len (a + 1) n)) (all_set bits (a + 1) n) in
    here (is_set bits a) rest
  where
    here : (b : Bool) → AllByRecursion (λ x. (a ≤ x) × (x < a + suc n)) (filter (is_set bits) (range_with_len (a + 1) n)) → AllByRecursion (λ x. (a ≤ x) × (x < a + suc n)) (cond b (a ∷ filter (is_set bits) (range_with_len (a + 1) n)) (filter (is_set bits) (range_with_len (a + 1) n)))
    here true rest = ((omega arith, omega arith), rest)
    here false rest = rest

rise_set : (bits a n : ℕ) → Rise (filter (is_set bits) (range_with_len a n))
rise_set bits a zero = tt
rise_set bits a (suc n) = here (is_set bits a) (rise_set bits (a + 1) n) where
  here : (b : Bool) → Rise (filter (is_set bits) (range_with_len (a + 1) n)) → Rise (cond b (a ∷ filter (is_set bits) (range_with_len (a + 1) n)) (filter (is_set bits) (range_with_len (a + 1) n)))
  here true rest = (each_weaker (λ x. (a + 1 ≤ x) × (x < a + 1 + n)) (λ x. a < x) (λ x p. let q = p.0 in omega (arith, q)) (filter (is_set bits) (range_with_len (a + 1) n)) (all_set bits (a + 1) n), rest)
  here false rest = rest

all_moved : (k n : ℕ) (xs : List ℕ) → AllByRecursion (λ x. (0 ≤ x) × (x < 0 + n)) xs → AllByRecursion (λ x. (k ≤ x) × (x < k + n)) (map (λ (b : ℕ). k + b) xs)
all_moved k n [] h = tt
all_moved k n (x ∷ xs) h = let p = h.0.1 in ((omega arith, omega (arith, p)), all_moved k n xs h.1)

above_moved : (k x : ℕ) (xs : List ℕ) → AllByRecursion (λ y. x < y) xs → AllByRecursion (λ y. k + x < y) (map (λ (b : ℕ). k + b) xs)
above_moved k x [] h = tt
above_moved k x (y ∷ xs) h = let p = h.0 in (omega (arith, p), above_moved k x xs h.1)

rise_moved : (k : ℕ) (xs : List ℕ) → Rise xs → Rise (map (λ (b : ℕ). k + b) xs)
rise_moved k [] r = tt
rise_moved k (x ∷ xs) r = (above_moved k x xs r.0, rise_moved k xs r.1)

-- the ids of one map are those of its unit, and rise
pub ids_within : (unit bits : ℕ) → AllByRecursion (λ x. (64 * unit ≤ x) × (x < 64 * unit + 64)) (ids_in unit bits)
ids_within unit bits = all_moved (64 * unit) 64 (set_bits_of bits) (all_set bits 0 64)

pub ids_rise : (unit bits : ℕ) → Rise (ids_in unit bits)
ids_rise unit bits = rise_moved (64 * unit) (set_bits_of bits) (rise_set bits 0 64)

-- the unit of an id of a map is that map's
pub unit_is : (unit id : ℕ) → 64 * unit ≤ id → id < 64 * unit + 64 → unit_of id ≡ unit
unit_is unit id low high = omega (arith, low, high)

unit_here : (m : MapSeen) (k : ℕ) → m.unit ≡ k → AllByRecursion (λ x. (64 * k ≤ x) × (x < 64 * k + 64)) (ids_in m.unit m.bits)
unit_here m k e = subst (λ (u : ℕ). AllByRecursion (λ x. (64 * u ≤ x) × (x < 64 * u + 64)) (ids_in m.unit m.bits)) e (ids_within m.unit m.bits)

-- the ids of maps of rising units from one on
pub ids_from : (maps : List MapSeen) (k : ℕ) → map (λ (m : MapSeen). m.unit) maps ≡ range_with_len k (length maps) → AllByRecursion (λ x. 64 * k ≤ x) (flat_map (λ (m : MapSeen). ids_in m.unit m.bits) maps)
ids_from [] k e = tt
ids_from (m ∷ maps) k e = let here = unit_here m k (ap head_of e) in each_append (λ x. 64 * k ≤ x) (ids_in m.unit m.bits) (flat_map (λ (m : MapSeen). ids_in m.unit m.bits) maps)
    (each_weaker (λ x. (64 * k ≤ x) × (x < 64 * k + 64)) (λ x. 64 * k ≤ x) (λ x p. p.0) (ids_in m.unit m.bits) here)
    (each_weaker (λ x. 64 * (k + 1) ≤ x) (λ x. 64 * k ≤ x) (λ x p. omega (arith, p)) (flat_map (λ (m : MapSeen). ids_in m.unit m.bits) maps) (ids_from maps (k + 1) (ap tail_of e)))
  where
    head_of : List ℕ → ℕ
    head_of [] = 0
    head_of (x ∷ xs) = x

    tail_of : List ℕ → List ℕ
    tail_of [] = []
    tail_of (x ∷ xs) = xs

-- they rise
pub all_rise : (maps : List MapSeen) (k : ℕ) → map (λ (m : MapSeen). m.unit) maps ≡ range_with_len k (length maps) → Rise (flat_map (λ (m : MapSeen). ids_in m.unit m.bits) maps)
all_rise [] k e = tt
all_rise (m ∷ maps) k e = let here = unit_here m k (ap head_of e) in let more = ids_from maps (k + 1) (ap tail_of e) in
    rise_append (64 * k + 64) (ids_in m.unit m.bits) (flat_map (λ (m : MapSeen). ids_in m.unit m.bits) maps)
    (each_weaker (λ x. (64 * k ≤ x) × (x < 64 * k + 64)) (λ x. x < 64 * k + 64) (λ x p. p.1) (ids_in m.unit m.bits) here)
    (each_weaker (λ x. 64 * (k + 1) ≤ x) (λ x. 64 * k + 64 ≤ x) (λ x p. omega (arith, p)) (flat_map (λ (m : MapSeen). ids_in m.unit m.bits) maps) more)
    (ids_rise m.unit m.bits) (all_rise maps (k + 1) (ap tail_of e))
  where
    head_of : List ℕ → ℕ
    head_of [] = 0
    head_of (x ∷ xs) = x

    tail_of : List ℕ → List ℕ
    tail_of [] = []
    tail_of (x ∷ xs) = xs

-- the units of the attempts, which are at these ids, don't fall: the ids rise, and a unit is an id by 64
pub units_stay : (x y : ℕ) → x < y → unit_of x ≤ unit_of y
units_stay x y lt = omega (arith, lt)

-- the ids of all maps but the last are no more than those of all
pub front_few : (maps front : List MapSeen) (last : MapSeen) → maps ≡ front ++ last ∷ [] → length (flat_map (λ (m : MapSeen). ids_in m.unit m.bits) front) ≤ length (flat_map (λ (m : MapSeen). ids_in m.unit m.bits) maps)
front_few maps front last e = let whole = ap (λ (l : List MapSeen). length (flat_map (λ (m : MapSeen). ids_in m.unit m.bits) l)) e in let both = ap (length {A = ℕ}) (flat_map-append (λ (m : MapSeen). ids_in m.unit m.bits) front (last ∷ [])) in
    let sum = length-append (flat_map (λ (m : MapSeen). ids_in m.unit m.bits) front) (flat_map (λ (m : MapSeen). ids_in m.unit m.bits) (last ∷ [])) in omega (arith, whole, both, sum)

-- a list with one more has one front
pub one_front : (maps front : List MapSeen) (m last : MapSeen) → maps ++ m ∷ [] ≡ front ++ last ∷ [] → front ≡ maps
one_front maps front m last e =
    let a = length-append maps (m ∷ []) in let b = length-append front (last ∷ []) in let c = ap (length {A = MapSeen}) e in let same : length front ≡ length maps = omega (arith, a, b, c) in
    sym (take-append_seam front (last ∷ [])) ∙ (ap (take (length front)) (sym e) ∙ (ap (λ n. take n (maps ++ m ∷ [])) same ∙ take-append_seam maps (m ∷ [])))
