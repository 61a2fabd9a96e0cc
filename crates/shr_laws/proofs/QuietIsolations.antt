-- SPDX-License-Identifier: GPL-2.0-only
-- A report that says nothing of isolations has what the law on isolations asks of it.
use Rattle.shr_laws.proofs.Common.{◌≡◌, ℕ, [], sym, ap, ◌∙◌, slice_get, Some, filter, none-some, Script, Isolation, is_serial, Report, isolations_of, EachAnswer, EachEntry, IsOfIsolation, isolations_told, AreIsolationsLawful, isolation_at}

module _ (s : Script) (r : Report) (none : (worker : ℕ) → isolations_of r worker ≡ []) (scans : EachEntry r (λ place n e. IsOfIsolation r place e))
    (untold : EachAnswer s r (λ by c a. isolations_told by c a ≡ [])) where
  no_isolation : (worker k : ℕ) (i : Isolation) → isolation_at r worker k ≡ Some i → ⊥
  no_isolation worker k i at = none-some i (ap (λ l. slice_get l k) (sym (none worker)) ∙ at)

  pub quiet_isolations : AreIsolationsLawful s r
  quiet_isolations = record {
    each = λ worker k i at. absurd (no_isolation worker k i at);
    closed = λ worker k i at. absurd (no_isolation worker k i at);
    worn = λ worker k i at. absurd (no_isolation worker k i at);
    scans = scans;
    commands = λ by c a e f. ap (filter (λ (i : Isolation). is_serial by i.by)) (none by.worker) ∙ sym (untold by c a e f);
  }
