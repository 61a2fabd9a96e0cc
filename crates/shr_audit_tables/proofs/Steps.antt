-- SPDX-License-Identifier: GPL-2.0-only
-- Steps of loops, and lists of lists gone through one by one.
use Rattle.shr_audit_tables.proofs.Common.{◌≡◌, ℕ, suc, ◌+◌, ◌<◌, Bool, false, List, [], ◌∷◌, ◌++◌, length, get_or, take, refl, sym, ap, subst, ◌∙◌, flat_map, sum_by, Decides, AllByRecursion, sum_by_more, EachItem, each_in, all_of, all_front, all_right}
use Rattle.shr_model.proofs.BagLaws.{each_append}

-- the sum of one item more
pub sum_item : {X : Type 0} (f : X → ℕ) (xs : List X) (i : ℕ) (y : X) → i < length xs → y ≡ get_or xs i y → sum_by f (take (i + 1) xs) ≡ sum_by f (take i xs) + f y
sum_item {X} f xs i y lt is = sum_by_more f xs i y lt ∙ ap (λ (v : X). sum_by f (take i xs) + f v) (sym is)

-- what is decided of a list is so of the same list
pub along : {X : Type 0} (P : List X → Type 0) (b : Bool) (xs ys : List X) → xs ≡ ys → Decides b (P xs) → Decides b (P ys)
along {X} P b xs ys e d = subst (λ (zs : List X). Decides b (P zs)) e d

-- a test that failed
pub failed : (P : Type 0) (b : Bool) → Decides b P → b ≡ false → P → ⊥
failed P b d f h = let t = d.1 h in cc

-- it is so of each item of each part, and of all of them in a row
pub in_a_row : {X Y : Type 0} (P : Y → Type 0) (f : X → List Y) (xs : List X) → EachItem (λ (x : X). EachItem P (f x)) xs → AllByRecursion P (flat_map f xs)
in_a_row P f [] h = tt
in_a_row P f (x ∷ xs) h = each_append P (f x) (flat_map f xs) (all_of P (f x) (h 0 x refl)) (in_a_row P f xs (λ n y e. h (suc n) y e))

pub from_a_row : {X Y : Type 0} (P : Y → Type 0) (f : X → List Y) (xs : List X) → AllByRecursion P (flat_map f xs) → EachItem (λ (x : X). EachItem P (f x)) xs
from_a_row {X} {Y} P f xs h = each_in (λ (x : X). EachItem P (f x)) xs (by_part xs h)
  where
    by_part : (ys : List X) → AllByRecursion P (flat_map f ys) → AllByRecursion (λ (x : X). EachItem P (f x)) ys
    by_part [] h = tt
    by_part (y ∷ ys) h = (each_in P (f y) (all_front P (f y) (flat_map f ys) h), by_part ys (all_right P (f y) (flat_map f ys) h))
