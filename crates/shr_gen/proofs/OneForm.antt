-- SPDX-License-Identifier: GPL-2.0-only
-- Words are of one form at most.
use Rattle.shr_gen.proofs.FormsCommon.{◌≡◌, ◌∙◌, ℕ, ◌∷◌, [], List, codes, decimal, refl, sym, Option, Some, None, decimal_injective, Form, Run, Audit, AreRunWords, AreAuditWords, AreGenWords, ReadsAs, Gen}
use Rattle.shr_gen.proofs.Reading.{same_words, sizes_fit}

pub run_not_gen : (words : List (List ℕ)) (seed workers commands : ℕ) → AreRunWords words → AreGenWords words seed workers commands → ⊥
run_not_gen words seed workers commands run gen = let no : codes "run" ∷ [] ≡ codes "gen" ∷ decimal seed ∷ decimal workers ∷ decimal commands ∷ [] = sym run ∙ gen.spelled in absurd cc

pub audit_not_gen : (words : List (List ℕ)) (seed workers commands : ℕ) → AreAuditWords words → AreGenWords words seed workers commands → ⊥
audit_not_gen words seed workers commands audit gen = let no : codes "audit" ∷ [] ≡ codes "gen" ∷ decimal seed ∷ decimal workers ∷ decimal commands ∷ [] = sym audit ∙ gen.spelled in absurd cc

pub run_not_audit : (words : List (List ℕ)) → AreRunWords words → AreAuditWords words → ⊥
run_not_audit words run audit = let no : codes "run" ∷ [] ≡ codes "audit" ∷ [] = sym run ∙ audit in absurd cc

-- the numbers are those that the words spell
pub same_numbers : (words : List (List ℕ)) (s w c t v d : ℕ) → AreGenWords words s w c → AreGenWords words t v d → (s ≡ t) × (w ≡ v) × (c ≡ d)
same_numbers words s w c t v d one two =
    let same = same_words (decimal s) (decimal w) (decimal c) (decimal t) (decimal v) (decimal d) (sym one.spelled ∙ two.spelled) in
    let fit = sizes_fit w c one.made in
    let fits = sizes_fit v d two.made in
    (decimal_injective s t one.seed_fits two.seed_fits same.first, decimal_injective w v fit.0 fits.0 same.second, decimal_injective c d fit.1 fits.1 same.third)

same_gen : (s w c t v d : ℕ) → s ≡ t → w ≡ v → c ≡ d → Some (Gen s w c) ≡ Some (Gen t v d)
same_gen s w c t v d a b e = cc

pub one_form : (words : List (List ℕ)) (form other : Option Form) → ReadsAs words form → ReadsAs words other → form ≡ other
one_form words (Some Run) (Some Run) h k = refl
one_form words (Some Run) (Some (Gen s w c)) h k = absurd (run_not_gen words s w c h k)
one_form words (Some Run) (Some Audit) h k = absurd (run_not_audit words h k)
one_form words (Some Run) None h k = absurd (k.run h)
one_form words (Some (Gen s w c)) (Some Run) h k = absurd (run_not_gen words s w c k h)
one_form words (Some (Gen s w c)) (Some (Gen t v d)) h k = let same = same_numbers words s w c t v d h k in same_gen s w c t v d same.0 same.1 same.2
one_form words (Some (Gen s w c)) (Some Audit) h k = absurd (audit_not_gen words s w c k h)
one_form words (Some (Gen s w c)) None h k = absurd (k.gen s w c h)
one_form words (Some Audit) (Some Run) h k = absurd (run_not_audit words k h)
one_form words (Some Audit) (Some (Gen s w c)) h k = absurd (audit_not_gen words s w c h k)
one_form words (Some Audit) (Some Audit) h k = refl
one_form words (Some Audit) None h k = absurd (k.audit h)
one_form words None (Some Run) h k = absurd (h.run k)
one_form words None (Some (Gen s w c)) h k = absurd (h.gen s w c k)
one_form words None (Some Audit) h k = absurd (h.audit k)
one_form words None None h k = refl
