-- SPDX-License-Identifier: GPL-2.0-only
-- What is so of each item with its number, while a list is gone through.
use Rattle.shr_audit_lists.proofs.Common.{◌≡◌, ℕ, ◌+◌, ◌<◌, ◌≤◌, Bool, true, false, List, length, Some, refl, sym, subst, ◌⊎◌, inl, inr, arith, slice_get, Decides, cases_order, slice_get_within, slice_get_cases}

clash : (b : Bool) → b ≡ true → b ≡ false → ⊥
clash b e f = cc

module _ {X : Type 0} (P : ℕ → X → Type 0) (xs : List X) (k : ℕ) where
  -- where it fails of one
  pub one_fails : (b : Bool) → k < length xs → b ≡ false → ((x : X) → slice_get xs k ≡ Some x → Decides b (P k x)) → Decides false ((n : ℕ) (x : X) → slice_get xs n ≡ Some x → P n x)
  one_fails b lt f d = (
    λ t. absurd cc,
    λ all. absurd (elim (slice_get_cases xs k).1 [
      | inl here ↦ clash b ((d here.0 here.2).1 (all k here.0 here.2)) f
      | inr past ↦ (let le : length xs ≤ k = past.0 in absurd (omega arith))
    ]),
  )

  -- one more
  pub one_more : (b : Bool) → b ≡ true → ((x : X) → slice_get xs k ≡ Some x → Decides b (P k x)) → ((n : ℕ) (x : X) → n < k → slice_get xs n ≡ Some x → P n x)
      → (n : ℕ) (x : X) → n < k + 1 → slice_get xs n ≡ Some x → P n x
  one_more b t d before n x lt at = by_order (cases_order n k)
    where
      by_order : (n ≡ k) ⊎ ((n < k) ⊎ (k < n)) → P n x
      by_order (inl same) = subst (λ (m : ℕ). P m x) (sym same) ((d x (subst (λ (m : ℕ). slice_get xs m ≡ Some x) same at)).0 t)
      by_order (inr (inl lower)) = before n x lower at
      by_order (inr (inr higher)) = absurd (omega arith)

  -- all of them
  pub all_so : length xs ≤ k → ((n : ℕ) (x : X) → n < k → slice_get xs n ≡ Some x → P n x) → Decides true ((n : ℕ) (x : X) → slice_get xs n ≡ Some x → P n x)
  all_so le before = (λ t n x at. before n x (let lt = slice_get_within xs n x at in let lower : n < k = omega arith in lower) at, λ h. refl)
