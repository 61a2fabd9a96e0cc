-- SPDX-License-Identifier: GPL-2.0-only
-- The first numbers, the first of a list, and the set bits below a bit.
use Rattle.shr_walk.proofs.Common.{◌≡◌, ℕ, zero, suc, ◌+◌, ◌-◌, ◌*◌, ◌≤◌, ◌==◌, cond, Bool, true, false, List, [], ◌∷◌, ◌++◌, map, length, take, sym, ap, subst, ◌∙◌, arith, append_assoc, length-append, append-nil, map-append, bit_at, filter, is_set, range_with_len, IsPrefixOf}
use Rattle.std.proofs.Math.Seq.{take-append-add}
use Rattle.std.proofs.lemmas.List.{take-append-le}
use Rattle.std.proofs.lemmas.List.Elements.{filter-append}
pub use Rattle.shr_model.proofs.GroupsLaws.{range_more}

-- ---- the first of a list
take_few : {A : Type 0} (n : ℕ) (l : List A) → length (take n l) ≤ length l
take_few zero l = omega arith
take_few (suc n) [] = omega arith
take_few (suc n) (x ∷ l) = let few = take_few n l in omega (arith, few)

pub prefix_few : (xs ys : List ℕ) → IsPrefixOf xs ys → length xs ≤ length ys
prefix_few xs ys h = let few = take_few (length xs) ys in let e = ap (λ (l : List ℕ). length l) h in omega (arith, few, e)

-- the first of a list are the first of a longer one
pub prefix_longer : (xs ys zs : List ℕ) → IsPrefixOf xs ys → IsPrefixOf xs (ys ++ zs)
prefix_longer xs ys zs h = take-append-le (length xs) ys zs (prefix_few xs ys h) ∙ h

-- and behind the same list they are the first too
prefix_behind : (before xs ys : List ℕ) → IsPrefixOf xs ys → IsPrefixOf (before ++ xs) (before ++ ys)
prefix_behind before xs ys h = ap (λ (n : ℕ). take n (before ++ ys)) (length-append before xs) ∙ (take-append-add before ys (length xs) ∙ ap (λ l. before ++ l) h)

pub prefix_then : {A : Type 0} (f : A → ℕ) (xs ys : List A) (fs gs : List ℕ) → map f xs ≡ fs → IsPrefixOf (map f ys) gs → IsPrefixOf (map f (xs ++ ys)) (fs ++ gs)
prefix_then f xs ys fs gs e h = subst (λ (l : List ℕ). IsPrefixOf l (fs ++ gs)) (sym (map-append f xs ys ∙ ap (λ l. l ++ map f ys) e)) (prefix_behind fs (map f ys) gs h)

range_begins : (n d : ℕ) → (rest : List ℕ) × (range_with_len 0 (n + d) ≡ range_with_len 0 n ++ rest)
range_begins n zero = let e : n + 0 ≡ n = omega arith in ([], ap (range_with_len 0) e ∙ sym (append-nil (range_with_len 0 n)))
range_begins n (suc d) = let r = range_begins n d in let e : n + suc d ≡ (n + d) + 1 = omega arith in
    (r.0 ++ (n + d) ∷ [], ap (range_with_len 0) e ∙ (range_more (n + d) ∙ (ap (λ l. l ++ (n + d) ∷ []) r.1 ∙ append_assoc (range_with_len 0 n) r.0 ((n + d) ∷ []))))

pub range_within : (n m : ℕ) → n ≤ m → (rest : List ℕ) × (range_with_len 0 m ≡ range_with_len 0 n ++ rest)
range_within n m le = let r = range_begins n (m - n) in let e : m ≡ n + (m - n) = omega (arith, le) in (r.0, ap (range_with_len 0) e ∙ r.1)

-- ---- the set bits below a bit
abbrev pub set_below : ℕ → ℕ → List ℕ
set_below bits n = filter (is_set bits) (range_with_len 0 n)

-- the ids that they stand for
abbrev pub ids_below : ℕ → ℕ → ℕ → List ℕ
ids_below unit bits n = map (λ (b : ℕ). 64 * unit + b) (set_below bits n)

pub set_more : (bits n : ℕ) → set_below bits (n + 1) ≡ set_below bits n ++ cond (bit_at bits n == 1) (n ∷ []) []
set_more bits n = ap (filter (is_set bits)) (range_more n) ∙ filter-append (is_set bits) (range_with_len 0 n) (n ∷ [])

pub set_suc : (bits n : ℕ) → set_below bits (suc n) ≡ set_below bits n ++ cond (bit_at bits n == 1) (n ∷ []) []
set_suc bits n = let e : suc n ≡ n + 1 = omega arith in ap (set_below bits) e ∙ set_more bits n

-- the set bits below a bit begin those below a higher one
pub set_within : (bits n m : ℕ) → n ≤ m → (rest : List ℕ) × (set_below bits m ≡ set_below bits n ++ rest)
set_within bits n m le = let r = range_within n m le in (filter (is_set bits) r.0, ap (filter (is_set bits)) r.1 ∙ filter-append (is_set bits) (range_with_len 0 n) r.0)

pub ids_within : (unit bits n m : ℕ) → n ≤ m → (rest : List ℕ) × (ids_below unit bits m ≡ ids_below unit bits n ++ rest)
ids_within unit bits n m le = let r = set_within bits n m le in (map (λ (b : ℕ). 64 * unit + b) r.0, ap (map (λ (b : ℕ). 64 * unit + b)) r.1 ∙ map-append (λ (b : ℕ). 64 * unit + b) (set_below bits n) r.0)

pub set_few : (bits n : ℕ) → length (set_below bits n) ≤ n
set_few bits zero = omega arith
set_few bits (suc n) = let few = set_few bits n in let e = ap (λ (l : List ℕ). length l) (set_suc bits n) in let both = length-append (set_below bits n) (cond (bit_at bits n == 1) (n ∷ []) []) in let one = at_most (bit_at bits n == 1) in omega (arith, few, e, both, one)
  where
    at_most : (b : Bool) → length (cond b (n ∷ []) []) ≤ 1
    at_most true = omega arith
    at_most false = omega arith
