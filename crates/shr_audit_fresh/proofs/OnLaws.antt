-- SPDX-License-Identifier: GPL-2.0-only
-- Answers against the number of the caches that are `on`, and past the last one.
use Rattle.shr_audit_fresh.proofs.Common.{◌≡◌, ℕ, ◌<◌, ◌≤◌, Bool, true, length, Option, Some, None, refl, sym, subst, ◌∙◌, inl, inr, arith, Decides, slice_get_within, Answered, Script, Report, pool_seen, answer_at, answers_of, commands_of, serial_of, Reaches, IsOnSeenAt, slice_get_cases, decls_on, some_injective}
use Rattle.shr_audit_fresh.proofs.Answering.{answer_past}

none_some : {X : Type 0} (a : X) → ◌≡◌ {A = Option X} None (Some a) → ⊥
none_some a e = cc

module _ (s : Script) (r : Report) (worker k : ℕ) where
  pub no_command : length (commands_of s worker) ≤ k → Decides true (IsOnSeenAt s r worker k)
  no_command over = (λ t c a e f. (let lt = slice_get_within (commands_of s worker) k c e in absurd (omega (arith, lt, over))), λ h. refl)

  pub no_answer : None ≡ answer_at r (serial_of worker k) → Decides true (IsOnSeenAt s r worker k)
  no_answer none = (λ t c a e f. absurd (none_some a (none ∙ f)), λ h. refl)

  pub past_on : length (answers_of r worker) ≤ k → IsOnSeenAt s r worker k
  past_on over c a e f = absurd (none_some a (sym (answer_past r worker k over) ∙ f))

  pub on_seen : (b : Bool) (on : ℕ) (a : Answered) → k < length (commands_of s worker) → on ≡ length (decls_on s) → Some a ≡ answer_at r (serial_of worker k) → Decides b (Reaches on (pool_seen a)) → Decides b (IsOnSeenAt s r worker k)
  on_seen b on a there is at d = (
    λ t c x e f. subst (λ (y : Answered). Reaches (length (decls_on s)) (pool_seen y)) (some_injective a x (at ∙ f)) (subst (λ (n : ℕ). Reaches n (pool_seen a)) is (d.0 t)),
    λ h. d.1 (elim (slice_get_cases (commands_of s worker) k).1 [
      | inl c ↦ subst (λ (n : ℕ). Reaches n (pool_seen a)) (sym is) (h c.0 a c.2 (sym at))
      | inr past ↦ absurd (let over = past.0 in omega (arith, over, there))
    ]),
  )
