-- SPDX-License-Identifier: GPL-2.0-only
-- One item more of a run.
use Rattle.std.proofs.Common.{◌≡◌, ℕ, ◌+◌, ◌-◌, ◌<◌, ◌≤◌, List, [], ◌∷◌, ◌++◌, length, take, drop, get_or, sym, subst, ap, ◌∙◌, arith, length-drop}
use Rattle.std.proofs.Math.Seq.{length-take-le}
use Rattle.std.proofs.lemmas.List.{append-nil, take_more, take_all, get_or-drop}
use Rattle.std.specs.List.{AllByRecursion}
use Rattle.shr_model.proofs.BagLaws.{each_append}
use Rattle.shr_laws.specs.Lines.{numbered}
use Rattle.shr_print.specs.Runs.{run_of}
use Rattle.shr_print.specs.Joined.{numbered_append}

-- the next
pub run_more : {X : Type 0} (xs : List X) (from i : ℕ) (x : X) → from ≤ i → i < length xs → x ≡ get_or xs i x → run_of from (i + 1) xs ≡ run_of from i xs ++ x ∷ []
run_more xs from i x le lt is =
    let next : i + 1 - from ≡ i - from + 1 = omega (arith, le) in
    let at : from + (i - from) ≡ i = omega (arith, le) in
    let inside : i - from < length (drop from xs) = omega (arith, le, lt, length-drop from xs) in
    let read : get_or (drop from xs) (i - from) x ≡ x = get_or-drop from xs (i - from) x ∙ ap (λ k. get_or xs k x) at ∙ sym is in
    ap (λ k. take k (drop from xs)) next ∙ take_more (drop from xs) (i - from) x inside ∙ ap (λ y. run_of from i xs ++ y ∷ []) read

-- the text of one
numbered_one : {X : Type 0} (f : ℕ → X → List ℕ) (n : ℕ) (x : X) → numbered f n (x ∷ []) ≡ f n x
unfolding numbered
numbered_one f n x = append-nil (f n x)

-- its text too
pub texts_more : {X : Type 0} (f : ℕ → X → List ℕ) (xs : List X) (from i : ℕ) (x : X) → from ≤ i → i < length xs → x ≡ get_or xs i x → numbered f from (run_of from i xs) ++ f i x ≡ numbered f from (run_of from (i + 1) xs)
texts_more f xs from i x le lt is =
    let at : from + length (run_of from i xs) ≡ i = omega (arith, le, length-take-le (i - from) (drop from xs) (omega (arith, le, lt, length-drop from xs))) in
    sym (ap (numbered f from) (run_more xs from i x le lt is) ∙ numbered_append f from (run_of from i xs) (x ∷ []) ∙ ap (λ n. numbered f from (run_of from i xs) ++ numbered f n (x ∷ [])) at ∙ ap (λ t. numbered f from (run_of from i xs) ++ t) (numbered_one f i x))

-- what is so of each
pub facts_more : {X : Type 0} (P : X → Type 0) (xs : List X) (from i : ℕ) (x : X) → from ≤ i → i < length xs → x ≡ get_or xs i x → AllByRecursion P (run_of from i xs) → P x → AllByRecursion P (run_of from (i + 1) xs)
facts_more P xs from i x le lt is so_far here = subst (AllByRecursion P) (sym (run_more xs from i x le lt is)) (each_append P (run_of from i xs) (x ∷ []) so_far (here, tt))

-- a run of all items
pub run_all : {X : Type 0} (xs : List X) → run_of 0 (length xs) xs ≡ xs
run_all xs = let e : length xs - 0 ≡ length xs = omega arith in ap (λ n. take n xs) e ∙ take_all (length xs) xs (omega arith)
