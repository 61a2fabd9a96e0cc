-- SPDX-License-Identifier: GPL-2.0-only
-- Two runs of neighbours are one.
use Rattle.std.proofs.Common.{◌≡◌, ℕ, ◌+◌, ◌-◌, ◌≤◌, List, [], ◌∷◌, ◌++◌, length, take, drop, flat_map, refl, sym, subst, ap, add-zero, ◌∙◌, append_assoc, arith, length-drop}
use Rattle.std.proofs.Math.Seq.{take-add, length-take-le}
use Rattle.std.proofs.lemmas.List.{drop-drop}
use Rattle.std.proofs.lemmas.Grind.{flat_map-append}
use Rattle.std.specs.List.{AllByRecursion}
use Rattle.shr_model.proofs.BagLaws.{each_append}
use Rattle.shr_laws.specs.Lines.{numbered}
use Rattle.shr_print.specs.Runs.{run_of}

-- no items
pub run_none : {X : Type 0} (xs : List X) (n : ℕ) → run_of n n xs ≡ []
run_none xs n = let e : n - n ≡ 0 = omega arith in ap (λ k. take k (drop n xs)) e

-- the items of both
pub runs_joined : {X : Type 0} (xs : List X) (from to end : ℕ) → from ≤ to → to ≤ end → run_of from end xs ≡ run_of from to xs ++ run_of to end xs
runs_joined xs from to end le le' =
    let whole : end - from ≡ to - from + (end - to) = omega (arith, le, le') in
    let next : from + (to - from) ≡ to = omega (arith, le) in
    ap (λ n. take n (drop from xs)) whole ∙ take-add (to - from) (end - to) (drop from xs) ∙ ap (λ ys. run_of from to xs ++ take (end - to) ys) (drop-drop (to - from) from xs ∙ ap (λ k. drop k xs) next)

-- no text of no items
pub texts_none : {X : Type 0} (f : X → List ℕ) (xs : List X) (n : ℕ) → flat_map f (run_of n n xs) ≡ []
texts_none f xs n = ap (flat_map f) (run_none xs n)

-- the texts of both
pub texts_joined : {X : Type 0} (f : X → List ℕ) (xs : List X) (from to end : ℕ) → from ≤ to → to ≤ end → flat_map f (run_of from to xs) ++ flat_map f (run_of to end xs) ≡ flat_map f (run_of from end xs)
texts_joined f xs from to end le le' = sym (ap (flat_map f) (runs_joined xs from to end le le') ∙ flat_map-append f (run_of from to xs) (run_of to end xs))

-- the texts of numbered items, in two parts
pub numbered_append : {X : Type 0} (f : ℕ → X → List ℕ) (n : ℕ) (xs ys : List X) → numbered f n (xs ++ ys) ≡ numbered f n xs ++ numbered f (n + length xs) ys
unfolding numbered
numbered_append f n [] ys = ap (λ m. numbered f m ys) (sym (add-zero n))
numbered_append f n (x ∷ xs) ys =
    let e : n + 1 + length xs ≡ n + length (x ∷ xs) = omega arith in
    ap (λ t. f n x ++ t) (numbered_append f (n + 1) xs ys ∙ ap (λ m. numbered f (n + 1) xs ++ numbered f m ys) e) ∙ sym (append_assoc (f n x) (numbered f (n + 1) xs) (numbered f (n + length (x ∷ xs)) ys))

-- no text of no items
nothing_numbered : {X : Type 0} (f : ℕ → X → List ℕ) (n : ℕ) → numbered f n [] ≡ []
unfolding numbered
nothing_numbered f n = refl

-- the same of no items of a run
pub numbered_none : {X : Type 0} (f : ℕ → X → List ℕ) (xs : List X) (n : ℕ) → numbered f n (run_of n n xs) ≡ []
numbered_none f xs n = ap (numbered f n) (run_none xs n) ∙ nothing_numbered f n

-- the texts of both, where the items are numbered
pub numbered_joined : {X : Type 0} (f : ℕ → X → List ℕ) (xs : List X) (from to end : ℕ) → from ≤ to → to ≤ end → end ≤ length xs → numbered f from (run_of from to xs) ++ numbered f to (run_of to end xs) ≡ numbered f from (run_of from end xs)
numbered_joined f xs from to end le le' within =
    let e : from + length (run_of from to xs) ≡ to = omega (arith, le, length-take-le (to - from) (drop from xs) (omega (arith, le, le', within, length-drop from xs))) in
    sym (ap (numbered f from) (runs_joined xs from to end le le') ∙ numbered_append f from (run_of from to xs) (run_of to end xs) ∙ ap (λ n. numbered f from (run_of from to xs) ++ numbered f n (run_of to end xs)) e)

-- all is so of each of no items
pub facts_none : {X : Type 0} (P : X → Type 0) (xs : List X) (n : ℕ) → AllByRecursion P (run_of n n xs)
facts_none P xs n = subst (AllByRecursion P) (sym (run_none xs n)) tt

-- what is so of each item of both
pub facts_joined : {X : Type 0} (P : X → Type 0) (xs : List X) (from to end : ℕ) → from ≤ to → to ≤ end → AllByRecursion P (run_of from to xs) → AllByRecursion P (run_of to end xs) → AllByRecursion P (run_of from end xs)
facts_joined P xs from to end le le' front next = subst (AllByRecursion P) (sym (runs_joined xs from to end le le')) (each_append P (run_of from to xs) (run_of to end xs) front next)
