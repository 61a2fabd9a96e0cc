-- SPDX-License-Identifier: GPL-2.0-only
-- What is so of each number, one after another.
use Rattle.std.proofs.Common.{◌≡◌, ℕ, ◌+◌, ◌<◌, ◌≤◌, Bool, true, false, refl, subst, inl, inr, arith}
use Rattle.std.proofs.lemmas.Bool.{cases_lt}
use Rattle.std.specs.Bool.{Decides}

module _ (P : ℕ → Type 0) (n : ℕ) where
  pub upto_more : ((k : ℕ) → k < n → P k) → P n → (k : ℕ) → k < n + 1 → P k
  upto_more before here k lt = elim (cases_lt k n) [
    | inl below ↦ before k below
    | inr above ↦ (let same : n ≡ k = omega (arith, lt, above) in subst P same here)
  ]

  pub upto_all : ((k : ℕ) → k < n → P k) → ((k : ℕ) → n ≤ k → P k) → Decides true ((k : ℕ) → P k)
  upto_all before past = (λ t k. elim (cases_lt k n) [ inl below ↦ before k below | inr above ↦ past k above ], λ h. refl)

  pub upto_fails : (b : Bool) → Decides b (P n) → b ≡ false → Decides false ((k : ℕ) → P k)
  upto_fails b d isnt = (λ t. absurd cc, λ h. absurd (let holds = d.1 (h n) in cc))
