-- SPDX-License-Identifier: GPL-2.0-only
-- An attempt that is worn, by its outcome and in the words of the law.
use Rattle.shr_audit_reasons.proofs.Common.{◌≡◌, ℕ, subst, refl, Script, Report, IsOutcomeCaused}
use Rattle.shr_base.specs.declared.replies.Spent.TheVariants as spent
use Rattle.shr_base.specs.declared.walks.Outcome.{Outcome}
use Rattle.shr_base.specs.declared.walks.Outcome.TheVariants as outcome
use Rattle.shr_laws.specs.Causes.{IsSpent}

pub caused_rightly : (s : Script) (r : Report) (worker id : ℕ) (o : Outcome) → IsOutcomeCaused s r worker id o → (seen : ℕ) → o ≡ outcome.Worn seen → IsSpent s r worker (spent.Lookups id seen)
caused_rightly s r worker id (outcome.Worn n) h seen e = let same : n ≡ seen = cc in subst (λ (m : ℕ). IsSpent s r worker (spent.Lookups id m)) same h
caused_rightly s r worker id o h seen e = absurd (cc)

pub rightly_caused : (s : Script) (r : Report) (worker id : ℕ) (o : Outcome) → ((seen : ℕ) → o ≡ outcome.Worn seen → IsSpent s r worker (spent.Lookups id seen)) → IsOutcomeCaused s r worker id o
rightly_caused s r worker id (outcome.Worn n) h = h n refl
rightly_caused s r worker id o h = tt
