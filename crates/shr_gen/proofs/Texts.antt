-- SPDX-License-Identifier: GPL-2.0-only
-- The paths, keys and values of a generated script are of their classes.
use Rattle.shr_gen.proofs.Common.{◌≡◌, ℕ, zero, suc, ◌+◌, ◌<◌, ◌≤◌, ◌%◌, Bool, true, false, [], ◌∷◌, length, map, refl, sym, ap, ◌∙◌, arith, codes, Some, None, range_with_len, nat_tests, root_path, worker_path, key_text, value_text, ◌≢◌, ◌^◌, ◌&&◌, not, decimal, ⊎_elim, bytes_eq, list_all}
use Rattle.std.specs.Fmt.{digits}
use Rattle.std.proofs.lemmas.Bool.{cases_Bool}
use Rattle.std.proofs.lemmas.List.{append_cancel_left}
use Rattle.std.proofs.lemmas.List.Folds.{list_all-append}
use Rattle.std.proofs.lemmas.Slice.Eq.{bytes_eq-Decides}
use Rattle.std.proofs.lemmas.Fmt.{decimal_by_steps, decimal_injective, length-decimal-le}
use Rattle.shr_model.proofs.PiecesLaws.{and_true}
use Rattle.shr_model.specs.Words.{is_visible, is_value, is_between}
use Rattle.shr_model.specs.Paths.{parent_path, is_path}
use Rattle.shr_model.specs.Pieces.{cut, pieces}
use Rattle.shr_words.specs.Classes.{place_of, passes, KeyTest}
use Rattle.shr_model.proofs.Booleans.{not_true}

-- ---- keys and values

digits_visible : (n : ℕ) → n < 2 ^ 64 → list_all is_visible (decimal n) ≡ true
digits_visible n small = decimal_by_steps (λ n ds. list_all is_visible ds ≡ true)
    (λ n low. grind (arith, nat_tests))
    (λ n ds high is. list_all-append is_visible ds ((48 + n % 10) ∷ []) ∙ ap (λ (b : Bool). b && list_all is_visible ((48 + n % 10) ∷ [])) is ∙ (let low : n % 10 < 10 = omega arith in grind (arith, nat_tests)))
    n small

between : (low high n : ℕ) → low ≤ n → n ≤ high → is_between low high n ≡ true
between low high n le ge = grind (arith, nat_tests)

pub is_key_of : (j : ℕ) → j < 100000 → passes KeyTest (key_text j) ≡ true
unfolding passes
is_key_of j small = let long = length-decimal-le 5 j (omega arith) small (omega (arith, small)) in
    let range : is_between 1 64 (suc (length (decimal j))) ≡ true = between 1 64 (suc (length (decimal j))) (omega arith) (omega (arith, long)) in
    let seen = digits_visible j (omega (arith, small)) in rw (range, seen) refl

pub is_value_of : (j : ℕ) → j < 100000 → is_value (value_text j) ≡ true
is_value_of j small = let long = length-decimal-le 5 j (omega arith) small (omega (arith, small)) in
    let range : is_between 0 255 (suc (length (decimal j))) ≡ true = between 0 255 (suc (length (decimal j))) (omega arith) (omega (arith, long)) in
    let seen = digits_visible j (omega (arith, small)) in rw (range, seen) refl

-- ---- paths

-- of each worker's path: it is one, its parent's is the root's, and it isn't the root's
abbrev path_fits : ℕ → Bool
path_fits w = is_path (worker_path w) && (bytes_eq (parent_path (worker_path w)) root_path && not (bytes_eq (worker_path w) root_path))

paths_fit : list_all path_fits (range_with_len 0 63) ≡ true
unfolding is_path parent_path pieces cut digits
paths_fit = refl

-- a test of all numbers of a range is so of each
list_all_at : (p : ℕ → Bool) (k n : ℕ) → list_all p (range_with_len k n) ≡ true → (d : ℕ) → d < n → p (k + d) ≡ true
list_all_at p k zero all d low = absurd (omega (arith, low))
list_all_at p k (suc n) all zero low = let e : k + 0 ≡ k = omega arith in ap p e ∙ (and_true (p k) (list_all p (range_with_len (k + 1) n)) all).0
list_all_at p k (suc n) all (suc d) low = let e : k + suc d ≡ k + 1 + d = omega arith in ap p e ∙ list_all_at p (k + 1) n (and_true (p k) (list_all p (range_with_len (k + 1) n)) all).1 d (omega (arith, low))

-- a worker's path is one, below the root alone
pub record FitsPath (w : ℕ) : Type 0 where
  pub is : is_path (worker_path w) ≡ true
  pub parent : parent_path (worker_path w) ≡ root_path
  pub below : bytes_eq (worker_path w) root_path ≡ false

-- a worker's path is a path, with the root as its parent
pub path_fit : (w : ℕ) → w < 63 → FitsPath w
path_fit w low = let all = list_all_at path_fits 0 63 paths_fit w low in let fits : path_fits w ≡ true = ap path_fits (let e : w ≡ 0 + w = omega arith in e) ∙ all in
    let one = and_true (is_path (worker_path w)) (bytes_eq (parent_path (worker_path w)) root_path && not (bytes_eq (worker_path w) root_path)) fits in
    let two = and_true (bytes_eq (parent_path (worker_path w)) root_path) (not (bytes_eq (worker_path w) root_path)) one.1 in
    record { is = one.0; parent = (bytes_eq-Decides (parent_path (worker_path w)) root_path).0 two.0; below = not_true (bytes_eq (worker_path w) root_path) two.1 }

-- ---- the paths among each other

-- two workers have different paths
pub other_path : (v w : ℕ) → v < 64 → w < 64 → v ≢ w → bytes_eq (worker_path v) (worker_path w) ≡ false
other_path v w low lower apart = ⊎_elim
    (λ (t : bytes_eq (worker_path v) (worker_path w) ≡ true). absurd (apart (decimal_injective v w (omega (arith, low)) (omega (arith, lower)) (append_cancel_left (codes "/g") (decimal v) (decimal w) ((bytes_eq-Decides (worker_path v) (worker_path w)).0 t)))))
    (λ f. f)
    (cases_Bool (bytes_eq (worker_path v) (worker_path w)))

pub same_path : (w : ℕ) → bytes_eq (worker_path w) (worker_path w) ≡ true
same_path w = (bytes_eq-Decides (worker_path w) (worker_path w)).1 refl

-- a path stands at its number
pub place_in_paths : (d k n : ℕ) → d < n → k + n ≤ 63 → place_of (worker_path (k + d)) (map worker_path (range_with_len k n)) ≡ Some d
unfolding place_of
place_in_paths d k zero low small = absurd (omega (arith, low))
place_in_paths zero k (suc n) low small = let e : k + 0 ≡ k = omega arith in rw (e, same_path k) refl
place_in_paths (suc d) k (suc n) low small =
    let other = other_path (k + suc d) k (omega (arith, low, small)) (omega (arith, small)) (λ e. absurd (omega (arith, e))) in
    let next = place_in_paths d (k + 1) n (omega (arith, low)) (omega (arith, small)) in
    let same : k + 1 + d ≡ k + suc d = omega arith in
    let there : place_of (worker_path (k + suc d)) (map worker_path (range_with_len (k + 1) n)) ≡ Some d = ap (λ (x : ℕ). place_of (worker_path x) (map worker_path (range_with_len (k + 1) n))) (sym same) ∙ next in
    let up : d + 1 ≡ suc d = omega arith in
    rw (other, there) (ap Some up)

-- and nowhere before
pub absent : (w k n : ℕ) → k + n ≤ w → w < 64 → place_of (worker_path w) (map worker_path (range_with_len k n)) ≡ None
unfolding place_of
absent w k zero low small = refl
absent w k (suc n) low small = let other = other_path w k small (omega (arith, low, small)) (λ e. absurd (omega (arith, e, low))) in
    let next = absent w (k + 1) n (omega (arith, low)) small in rw (other, next) refl
