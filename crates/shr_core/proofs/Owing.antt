-- SPDX-License-Identifier: GPL-2.0-only
-- What a call leaves owed.
use Rattle.shr_core.proofs.Common.{◌≡◌, ◌<◌, ℕ, List, [], ◌∷◌, refl, subst, arith, times, View, OwesNoMore}

none_owed : (owed : List ℕ) → ((k : ℕ) → 0 < times k owed → 0 < times k []) → owed ≡ []
none_owed [] only = refl
none_owed (x ∷ xs) only = absurd (let h = only x (grind (arith)) in omega (arith, h))

-- no place is owed where none was
pub still_none : (v w : View) → v.marks.owed ≡ [] → OwesNoMore v w → w.marks.owed ≡ []
still_none v w none only = none_owed w.marks.owed (λ k h. subst (λ (xs : List ℕ). 0 < times k xs) none (only k h))
