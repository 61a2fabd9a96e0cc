-- SPDX-License-Identifier: GPL-2.0-only
-- What answers say of declarations, added one after another.
use Rattle.shr_audit_rows.proofs.Common.{◌≡◌, ℕ, ◌+◌, ◌<◌, ◌≤◌, List, [], ◌∷◌, ◌++◌, length, Option, Some, None, sym, ap, subst, ◌∙◌, inl, inr, arith, option_and_then, option_map, cases_lt, append-nil, slice_get_past, WorkerPart, Answered, Reply, Command, Script, EachItem, decl_named, Report, answer_at, answers_in, answers_of, command_at, reply_at, serial_of, Asked, AddsSo, AreAllSo, IsAskedRight, IsSoIfAsked, asked_at, asked_in, option_to_list, all_of, each_in}
use Rattle.std.specs.List.{AllByRecursion}
use Rattle.shr_model.proofs.Lists.{all_push}

-- ---- one more

front_all : {X : Type 0} (P : X → Type 0) (xs : List X) (x : X) → AllByRecursion P (xs ++ x ∷ []) → AllByRecursion P xs
front_all P [] x h = tt
front_all P (y ∷ ys) x h = (h.0, front_all P ys x h.1)

last_all : {X : Type 0} (P : X → Type 0) (xs : List X) (x : X) → AllByRecursion P (xs ++ x ∷ []) → P x
last_all P [] x h = h.0
last_all P (y ∷ ys) x h = last_all P ys x h.1

pub adds_one : (s : Script) (r : Report) (asked : List Asked) (o : Option Asked) → AddsSo s r asked (asked ++ option_to_list o) (IsSoIfAsked s r o)
adds_one s r asked None = (λ h. (subst (EachItem (IsAskedRight s r)) (append-nil asked) h, tt), λ h. subst (EachItem (IsAskedRight s r)) (sym (append-nil asked)) h.0)
adds_one s r asked (Some a) = (
  λ h. (let all = all_of (IsAskedRight s r) (asked ++ a ∷ []) h in (each_in (IsAskedRight s r) asked (front_all (IsAskedRight s r) asked a all), last_all (IsAskedRight s r) asked a all)),
  λ h. each_in (IsAskedRight s r) (asked ++ a ∷ []) (all_push (IsAskedRight s r) asked a (all_of (IsAskedRight s r) asked h.0) h.1),
)

-- ---- one after another

module _ (s : Script) (r : Report) (Q : ℕ → Type 0) where
  pub adds_start : (old : List Asked) → AddsSo s r old old ((k : ℕ) → k < 0 → Q k)
  adds_start old = (λ h. (h, λ k lt. absurd (omega (arith, lt))), λ h. h.0)

  pub adds_next : (old now new : List Asked) (n : ℕ) → AddsSo s r old now ((k : ℕ) → k < n → Q k) → AddsSo s r now new (Q n) → AddsSo s r old new ((k : ℕ) → k < n + 1 → Q k)
  adds_next old now new n f g = (
    λ h. (let b = g.0 h in let a = f.0 b.0 in (
      a.0,
      λ k lt. elim (cases_lt k n) [
        | inl below ↦ a.1 k below
        | inr above ↦ (let same : n ≡ k = omega (arith, lt, above) in subst Q same b.1)
      ],
    )),
    λ p. g.1 (f.1 (p.0, λ k lt. p.1 k (omega (arith, lt))), p.1 n (omega arith)),
  )

  pub adds_end : (old new : List Asked) (n m : ℕ) → n ≡ m → AddsSo s r old new ((k : ℕ) → k < n → Q k) → AddsSo s r old new ((k : ℕ) → k < m → Q k)
  adds_end old new n m e h = subst (λ (i : ℕ). AddsSo s r old new ((k : ℕ) → k < i → Q k)) e h

-- ---- what isn't there says nothing

nothing_said : (c : Option Command) (x : Option Reply) (s : Script) (r : Report) → x ≡ None → IsSoIfAsked s r (option_and_then (λ (d : Command). option_and_then (asked_in (decl_named d)) x) c)
nothing_said None x s r e = tt
nothing_said (Some c) None s r e = tt
nothing_said (Some c) (Some x) s r e = absurd cc

past_so : (s : Script) (r : Report) (worker k : ℕ) → length (answers_of r worker) ≤ k → IsSoIfAsked s r (asked_at s r worker k)
past_so s r worker k over = nothing_said (command_at s (serial_of worker k)) (reply_at r (serial_of worker k)) s r (ap (option_map (λ (a : Answered). a.reply)) (slice_get_past (answers_of r worker) k over))

-- a worker that has no part has no answers
no_answers : (r : Report) (worker : ℕ) → length r.workers.items ≤ worker → length (answers_of r worker) ≡ 0
no_answers r worker over = ap (λ (o : Option WorkerPart). length (answers_in o)) (slice_get_past r.workers.items worker over)

-- what one worker's answers say is so
abbrev pub IsWorkerSo : Script → Report → ℕ → Type 0
IsWorkerSo s r worker = (k : ℕ) → k < length (answers_of r worker) → IsSoIfAsked s r (asked_at s r worker k)

pub all_said : (s : Script) (r : Report) (empty asked : List Asked) (n : ℕ) → empty ≡ [] → length r.workers.items ≤ n → AddsSo s r empty asked ((worker : ℕ) → worker < n → IsWorkerSo s r worker) → AreAllSo s r asked
all_said s r empty asked n none over h = (
  λ all worker k. elim (cases_lt k (length (answers_of r worker))) [
    | inr past ↦ past_so s r worker k past
    | inl there ↦ elim (cases_lt worker n) [
      | inl below ↦ (h.0 all).1 worker below k there
      | inr above ↦ (let e = no_answers r worker (omega (arith, over, above)) in absurd (omega (arith, e, there)))
    ]
  ],
  λ so. h.1 (subst (EachItem (IsAskedRight s r)) (sym none) (each_in (IsAskedRight s r) [] tt), λ worker lt k there. so worker k),
)

-- ---- single answers

pub no_command : (s : Script) (r : Report) (worker k : ℕ) → None ≡ command_at s (serial_of worker k) → None ≡ asked_at s r worker k
no_command s r worker k none = ap (λ (o : Option Command). option_and_then (λ (c : Command). option_and_then (asked_in (decl_named c)) (reply_at r (serial_of worker k))) o) none

pub no_answer : (s : Script) (r : Report) (worker k : ℕ) (c : Command) → Some c ≡ command_at s (serial_of worker k) → None ≡ answer_at r (serial_of worker k) → None ≡ asked_at s r worker k
no_answer s r worker k c here none =
    ap (λ (o : Option Answered). option_and_then (asked_in (decl_named c)) (option_map (λ (a : Answered). a.reply) o)) none
    ∙ ap (λ (o : Option Command). option_and_then (λ (d : Command). option_and_then (asked_in (decl_named d)) (reply_at r (serial_of worker k))) o) here

pub said_here : (s : Script) (r : Report) (worker k : ℕ) (c : Command) (a : Answered) (o : Option Asked) → Some c ≡ command_at s (serial_of worker k) → Some a ≡ answer_at r (serial_of worker k) → o ≡ asked_in (decl_named c) a.reply → o ≡ asked_at s r worker k
said_here s r worker k c a o here there is =
    is ∙ ap (λ (x : Option Answered). option_and_then (asked_in (decl_named c)) (option_map (λ (b : Answered). b.reply) x)) there
    ∙ ap (λ (x : Option Command). option_and_then (λ (d : Command). option_and_then (asked_in (decl_named d)) (reply_at r (serial_of worker k))) x) here
