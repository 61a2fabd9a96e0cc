-- SPDX-License-Identifier: GPL-2.0-only
-- One command more of a worker's run.
use Rattle.shr_worker.proofs.Common.{◌≡◌, ℕ, suc, ◌≤◌, inr, List, [], ◌∷◌, ◌++◌, length, length-append, refl, sym, ap, subst, ◌∙◌, arith, Some, slice_get, Answered, Command, Shared, CrewState, DeedGives, worker_commands, command_serial, IsWorkOf, inl}
use Rattle.std.proofs.lemmas.Option.{slice_get_within}
use Rattle.std.proofs.Math.Nat.{eq-or-lt_of_le}
pub use Rattle.shr_model.proofs.Lists.{get_last, get_front}

-- before any command
pub work_none : (x : Shared) (number : ℕ) (s : CrewState) → IsWorkOf x number [] s s
work_none x number s = record {
  states = s ∷ [];
  starts = refl;
  ends = refl;
  one_more = refl;
  each = λ k c a t u at answered. absurd (cc);
}

-- after one command more
pub work_more : (x : Shared) (number : ℕ) (answers : List Answered) (s t u : CrewState) (c : Command) (a : Answered) → IsWorkOf x number answers s t
    → slice_get (worker_commands x.script number) (length answers) ≡ Some c → DeedGives x (command_serial number (length answers)) c a t u
    → IsWorkOf x number (answers ++ a ∷ []) s u
work_more x number answers s t u c a w here did = record {
  states = w.states ++ u ∷ [];
  starts = get_front w.states u 0 (omega (arith, w.one_more)) ∙ w.starts;
  ends = ap (slice_get (w.states ++ u ∷ [])) (omega (arith, length-append answers (a ∷ []), w.one_more)) ∙ get_last w.states u;
  one_more = omega (arith, length-append w.states (u ∷ []), length-append answers (a ∷ []), w.one_more);
  each = each;
}
  where
    each : (k : ℕ) (d : Command) (b : Answered) (v z : CrewState) → slice_get (worker_commands x.script number) k ≡ Some d → slice_get (answers ++ a ∷ []) k ≡ Some b
        → slice_get (w.states ++ u ∷ []) k ≡ Some v → slice_get (w.states ++ u ∷ []) (suc k) ≡ Some z → DeedGives x (command_serial number k) d b v z
    each k d b v z commanded answered before after = elim (eq-or-lt_of_le within) as (λ _. DeedGives x (command_serial number k) d b v z) [
      | inl last ↦ at_last last
      | inr early ↦ w.each k d b v z commanded (sym (get_front answers a k early) ∙ answered) (sym (get_front w.states u k (omega (arith, early, w.one_more))) ∙ before) (sym (get_front w.states u (suc k) (omega (arith, early, w.one_more))) ∙ after)
    ]
      where
        within : k ≤ length answers
        within = let lt = slice_get_within (answers ++ a ∷ []) k b answered in omega (arith, lt, length-append answers (a ∷ []))

        at_last : k ≡ length answers → DeedGives x (command_serial number k) d b v z
        at_last e =
            let same_d : c ≡ d = let p : Some c ≡ Some d = sym here ∙ (ap (slice_get (worker_commands x.script number)) (sym e) ∙ commanded) in cc in
            let same_b : a ≡ b = let p : Some a ≡ Some b = sym (get_last answers a) ∙ (ap (slice_get (answers ++ a ∷ [])) (sym e) ∙ answered) in cc in
            let same_v : t ≡ v = let p : Some t ≡ Some v = sym (ap (slice_get w.states) e ∙ w.ends) ∙ (sym (get_front w.states u k (omega (arith, e, w.one_more))) ∙ before) in cc in
            let same_z : u ≡ z = let p : Some u ≡ Some z = sym (get_last w.states u) ∙ (ap (slice_get (w.states ++ u ∷ [])) (omega (arith, e, w.one_more)) ∙ after) in cc in
            subst (λ (n : ℕ). DeedGives x (command_serial number n) d b v z) (sym e)
            (subst (λ (p : Command). DeedGives x (command_serial number (length answers)) p b v z) same_d
            (subst (λ (p : Answered). DeedGives x (command_serial number (length answers)) c p v z) same_b
            (subst (λ (p : CrewState). DeedGives x (command_serial number (length answers)) c a p z) same_v
            (subst (λ (p : CrewState). DeedGives x (command_serial number (length answers)) c a t p) same_z did))))
