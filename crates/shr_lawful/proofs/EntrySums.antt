-- SPDX-License-Identifier: GPL-2.0-only
-- A sum over the entries of all journals is one over what the steps made.
use Rattle.shr_lawful.proofs.Common.{◌≡◌, ℕ, ◌+◌, List, [], ◌∷◌, refl, sym, ◌∙◌, arith, slice_get, Some, sum_by, enumerate_from, Entry, Place, Script, total, Made, Report, journals_of, places_of, Step, steps_of, all_made, IsRun, sum_total}
use Rattle.shr_lawful.proofs.Gathering.{total_same_on}
use Rattle.shr_lawful.proofs.Recounting.{journals_are}
use Rattle.shr_lawful.proofs.ScansLaw.{only_step}

-- the sum over all journals of what a function gives for their entries
abbrev pub sum_entries : Report → (Entry → ℕ) → ℕ
sum_entries r f = sum_by (λ (p : Place). sum_by f (journals_of r p)) (places_of r)

numbered_sum : (f : Entry → ℕ) (i : ℕ) (es : List Entry) → sum_by f es ≡ total (λ (e : ℕ × Entry). f e.1) (enumerate_from i es)
numbered_sum f i [] = refl
numbered_sum f i (e ∷ es) = omega (arith, sum_total f (e ∷ es), sum_total f es, numbered_sum f (i + 1) es)

module _ (s : Script) (r : Report) (workers : List (List Step)) (run : IsRun s r workers) (f : Entry → ℕ) where
  pub entries_made : sum_entries r f ≡ total (λ (m : Made). f m.entry) (all_made workers)
  entries_made = sum_total (λ (p : Place). sum_by f (journals_of r p)) (places_of r)
      ∙ (total_same_on (λ (p : Place). sum_by f (journals_of r p)) (λ (p : Place). total (λ (e : ℕ × Entry). f e.1) (enumerate_from 0 (journals_of r p))) (places_of r) (λ p. numbered_sum f 0 (journals_of r p))
      ∙ journals_are s r workers run (λ (m : Made). f m.entry) (λ p n e. f e) (λ m p place stands items. refl))

  -- where no other step's entries weigh, that of one step's
  pub entries_of_step : (worker k : ℕ) (x : Step) → slice_get (steps_of workers worker) k ≡ Some x
      → ((v j : ℕ) (y : Step) → slice_get (steps_of workers v) j ≡ Some y → ((v ≡ worker) × (j ≡ k) → ⊥) → total (λ (m : Made). f m.entry) y.work.core.made ≡ 0)
      → sum_entries r f ≡ sum_by (λ (m : Made). f m.entry) x.work.core.made
  entries_of_step worker k x at others = entries_made ∙ (only_step (λ (m : Made). f m.entry) (λ (y : Step). y.work.core.made) workers worker k x at others ∙ sym (sum_total (λ (m : Made). f m.entry) x.work.core.made))
