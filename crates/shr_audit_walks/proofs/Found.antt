-- SPDX-License-Identifier: GPL-2.0-only
-- What a binary search answers of keys in order.
use Rattle.shr_audit_walks.proofs.ScansCommon.{◌≡◌, ℕ, ◌<◌, ◌≤◌, Bool, true, false, List, length, get_or, refl, subst, ◌∙◌, arith, Contains, nat_lt, Decides, IsPermutation, nat_cmp, nat_tests, get_or_from_slice_get, slice_get-get_or, IsBinarySearchResult, IsNonDecreasing, Contains-permutation, IsPermutation-sym, searched}
use Rattle.std.specs.Result.{is_ok}
use Rattle.std.specs.declared.result.Result.{Result}
use Rattle.std.specs.declared.result.Result.TheVariants.{Ok, Err}

contained : (keys : List ℕ) (key i : ℕ) → i < length keys → get_or keys i 0 ≡ key → Contains keys key
contained keys key i lt e = (i, lt, get_or_from_slice_get keys i (get_or keys i 0) key (slice_get-get_or keys i 0 lt) ∙ e)

absent : (keys : List ℕ) (key i : ℕ) → ((k : ℕ) → k < i → get_or keys k 0 < key) → ((k : ℕ) → i ≤ k → k < length keys → key < get_or keys k 0) → Contains keys key → ⊥
absent keys key i before behind (k, lt, at) =
    let here : get_or keys k 0 ≡ key = get_or_from_slice_get keys k (get_or keys k key) 0 (slice_get-get_or keys k key lt) ∙ at in
    by_order (nat_lt k i) refl here
  where
    by_order : (b : Bool) → nat_lt k i ≡ b → get_or keys k 0 ≡ key → ⊥
    by_order true e here = let less = before k (let below : k < i = grind (arith, nat_tests) in below) in absurd (omega arith)
    by_order false e here = let more = behind k (let above : i ≤ k = grind (arith, nat_tests) in above) lt in absurd (omega arith)

by_search : (keys : List ℕ) (key : ℕ) (found : Result ℕ ℕ) → IsNonDecreasing keys → IsBinarySearchResult (λ y. nat_cmp y key) keys found → Decides (is_ok found) (Contains keys key)
by_search keys key (Ok i) up h =
    let at = searched keys key (Ok i) h (λ a b le lt. up a b 0 le lt) in
    (λ t. contained keys key i at.0 at.1, λ c. refl)
by_search keys key (Err i) up h =
    let away = searched keys key (Err i) h (λ a b le lt. up a b 0 le lt) in
    (λ t. absurd cc, λ c. absurd (absent keys key i away.1 away.2 c))

-- a key is found if and only if it is one of those that were put in order
pub found_if_there : (all keys items : List ℕ) (key : ℕ) (found : Result ℕ ℕ) → items ≡ keys → IsNonDecreasing keys → IsPermutation all keys → IsBinarySearchResult (λ y. nat_cmp y key) items found → Decides (is_ok found) (Contains all key)
found_if_there all keys items key found is up same h =
    let d = by_search keys key found up (subst (λ (xs : List ℕ). IsBinarySearchResult (λ y. nat_cmp y key) xs found) is h) in
    (λ t. Contains-permutation keys all key (IsPermutation-sym all keys same) (d.0 t), λ c. d.1 (Contains-permutation all keys key same c))
