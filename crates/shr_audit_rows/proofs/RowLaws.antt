-- SPDX-License-Identifier: GPL-2.0-only
-- Causes of replies, from the parts in which they are tested.
use Rattle.shr_audit_rows.proofs.Common.{◌≡◌, ℕ, ◌<◌, ◌≤◌, Bool, true, false, [], length, Option, Some, None, refl, sym, ap, subst, ◌∙◌, arith, slice_get, option_and_then, option_map, Decides, slice_get_past, slice_get_within, WorkerPart, Serial, Answered, Reply, Command, Script, decides_iff, decl_named, Report, answer_at, answers_in, answers_of, command_at, reply_at, serial_of, IsAskedSo, IsSoIfAsked, asked_at, asked_in, HasCountCause, IsCausedAt, EachAnswer, commands_in, AreFew, HasCauseButEnds, HasStateCause, some_injective}
use Rattle.shr_base.specs.declared.replies.Reply.TheVariants as reply
use Rattle.shr_base.specs.declared.scripts.WorkerScript.{WorkerScript}

none_some : {X : Type 0} (a : X) → ◌≡◌ {A = Option X} None (Some a) → ⊥
none_some a e = cc

-- ---- one reply

module _ (s : Script) (r : Report) (by : Serial) (c : Command) where
  parts_of : (x : Reply) → HasCauseButEnds s r by c x → HasStateCause s r c x × HasCountCause s r by c x × IsSoIfAsked s r (asked_in (decl_named c) x)
  parts_of (reply.Offline entry) h = (h, tt, tt)
  parts_of (reply.NotMade group) h = (h, tt, tt)
  parts_of (reply.Made entry) h = (h, tt, tt)
  parts_of (reply.AlreadyMade entry) h = (h, tt, tt)
  parts_of (reply.AlreadyDone entry) h = (h, tt, tt)
  parts_of reply.Root h = (h, tt, tt)
  parts_of (reply.Over g operation usage) h = (tt, h, tt)
  parts_of (reply.Worn x) h = (tt, h, tt)
  parts_of (reply.HasChildren child entry) h = (tt, h, tt)
  parts_of (reply.Registered id entry) h = (tt, h, tt)
  parts_of (reply.NoCache entry) h = (tt, tt, h)
  parts_of (reply.AlreadyRegistered entry) h = (tt, tt, h)
  parts_of (reply.NoId entry) h = (tt, tt, h)
  parts_of x h = (tt, tt, tt)

  of_parts : (x : Reply) → HasStateCause s r c x → HasCountCause s r by c x → IsSoIfAsked s r (asked_in (decl_named c) x) → HasCauseButEnds s r by c x
  of_parts (reply.Offline entry) a b d = a
  of_parts (reply.NotMade group) a b d = a
  of_parts (reply.Made entry) a b d = a
  of_parts (reply.AlreadyMade entry) a b d = a
  of_parts (reply.AlreadyDone entry) a b d = a
  of_parts reply.Root a b d = a
  of_parts (reply.Over g operation usage) a b d = b
  of_parts (reply.Worn x) a b d = b
  of_parts (reply.HasChildren child entry) a b d = b
  of_parts (reply.Registered id entry) a b d = b
  of_parts (reply.NoCache entry) a b d = d
  of_parts (reply.AlreadyRegistered entry) a b d = d
  of_parts (reply.NoId entry) a b d = d
  of_parts x a b d = tt

-- ---- all answers

asked_here : (s : Script) (r : Report) (worker k : ℕ) (c : Command) (a : Answered) → command_at s (serial_of worker k) ≡ Some c → answer_at r (serial_of worker k) ≡ Some a → asked_at s r worker k ≡ asked_in (decl_named c) a.reply
asked_here s r worker k c a here there =
    ap (λ (x : Option Command). option_and_then (λ (d : Command). option_and_then (asked_in (decl_named d)) (reply_at r (serial_of worker k))) x) here
    ∙ ap (λ (x : Option Answered). option_and_then (asked_in (decl_named c)) (option_map (λ (b : Answered). b.reply) x)) there

module _ (s : Script) (r : Report) where
  abbrev pub AllCaused : Type 0
  AllCaused = EachAnswer s r (λ by c a. HasCauseButEnds s r by c a.reply)

  caused_of : AllCaused → (worker k : ℕ) → IsCausedAt s r worker k
  caused_of all worker k c a here there = (let h = parts_of s r (serial_of worker k) c a.reply (all (serial_of worker k) c a here there) in (h.0, h.1))

  asked_of : AllCaused → IsAskedSo s r
  asked_of all worker k = by (command_at s (serial_of worker k)) refl (answer_at r (serial_of worker k)) refl
    where
      by : (x : Option Command) → command_at s (serial_of worker k) ≡ x → (y : Option Answered) → answer_at r (serial_of worker k) ≡ y → IsSoIfAsked s r (option_and_then (λ (c : Command). option_and_then (asked_in (decl_named c)) (option_map (λ (b : Answered). b.reply) y)) x)
      by None e y f = tt
      by (Some c) e None f = tt
      by (Some c) e (Some a) f = (parts_of s r (serial_of worker k) c a.reply (all (serial_of worker k) c a e f)).2

  all_of : ((worker k : ℕ) → IsCausedAt s r worker k) → IsAskedSo s r → AllCaused
  all_of own asked by c a here there = (let h = own by.worker by.command c a here there in
      of_parts s r by c a.reply h.0 h.1 (subst (IsSoIfAsked s r) (asked_here s r by.worker by.command c a here there) (asked by.worker by.command)))

  pub rows_fail : (b : Bool) → Decides b ((worker k : ℕ) → IsCausedAt s r worker k) → b ≡ false → Decides false AllCaused
  rows_fail b d isnt = (λ t. absurd cc, λ h. absurd (let holds = d.1 (caused_of h) in cc))

  pub rows_decided : (b : Bool) → ((worker k : ℕ) → IsCausedAt s r worker k) → Decides b (IsAskedSo s r) → Decides b AllCaused
  rows_decided b own d = decides_iff b (IsAskedSo s r) AllCaused (all_of own) asked_of d

-- ---- one answer

module _ (s : Script) (r : Report) (worker k : ℕ) where
  pub no_command : None ≡ command_at s (serial_of worker k) → Decides true (IsCausedAt s r worker k)
  no_command none = (λ t c a e f. absurd (none_some c (none ∙ e)), λ h. refl)

  pub no_answer : None ≡ answer_at r (serial_of worker k) → Decides true (IsCausedAt s r worker k)
  no_answer none = (λ t c a e f. absurd (none_some a (none ∙ f)), λ h. refl)

  module _ (c : Command) (a : Answered) (here : Some c ≡ command_at s (serial_of worker k)) (there : Some a ≡ answer_at r (serial_of worker k)) where
    pub state_fails : (b : Bool) → Decides b (HasStateCause s r c a.reply) → b ≡ false → Decides false (IsCausedAt s r worker k)
    state_fails b d isnt = (λ t. absurd cc, λ h. absurd (let holds = d.1 (h c a (sym here) (sym there)).0 in cc))

    pub counted_too : (b : Bool) → HasStateCause s r c a.reply → Decides b (HasCountCause s r (serial_of worker k) c a.reply) → Decides b (IsCausedAt s r worker k)
    counted_too b state d = (
      λ t x y e f. subst (λ (v : Command). HasStateCause s r v y.reply × HasCountCause s r (serial_of worker k) v y.reply) (some_injective c x (here ∙ e))
          (subst (λ (v : Answered). HasStateCause s r c v.reply × HasCountCause s r (serial_of worker k) c v.reply) (some_injective a y (there ∙ f)) (state, d.0 t)),
      λ h. d.1 (h c a (sym here) (sym there)).1,
    )

    from_script : (o : Option WorkerScript) → slice_get s.workers.items worker ≡ o → slice_get (commands_in o) k ≡ Some c → (w : WorkerScript) × ((slice_get s.workers.items worker ≡ Some w) × (k < length w.commands.items))
    from_script None e h = absurd (let lt = slice_get_within [] k c h in omega (arith, lt))
    from_script (Some w) e h = (w, (e, slice_get_within w.commands.items k c h))

    -- its numbers have the ranges of their types
    pub worker_few : AreFew s.workers.items → worker < 65536
    worker_few few = (let w = from_script (slice_get s.workers.items worker) refl (sym here) in let lt = slice_get_within s.workers.items worker w.0 w.1.0 in let most = few.few in omega (arith, lt, most))

    pub command_few : AreFew s.workers.items → k < 4294967296
    command_few few = (let w = from_script (slice_get s.workers.items worker) refl (sym here) in let lt = w.1.1 in let most = few.short worker w.0 w.1.0 in omega (arith, lt, most))

    from_part : (o : Option WorkerPart) → slice_get r.workers.items worker ≡ o → slice_get (answers_in o) k ≡ Some a → worker < length r.workers.items
    from_part None e h = absurd (let lt = slice_get_within [] k a h in omega (arith, lt))
    from_part (Some part) e h = slice_get_within r.workers.items worker part e

    pub part_there : worker < length r.workers.items
    part_there = from_part (slice_get r.workers.items worker) refl (sym there)

-- past the last answer
pub past_caused : (s : Script) (r : Report) (worker k : ℕ) → length (answers_of r worker) ≤ k → IsCausedAt s r worker k
past_caused s r worker k over c a e f = absurd (none_some a (sym (slice_get_past (answers_of r worker) k over) ∙ f))

pub past_workers : (s : Script) (r : Report) (worker k : ℕ) → length r.workers.items ≤ worker → IsCausedAt s r worker k
past_workers s r worker k over = past_caused s r worker k (let none = ap (λ (o : Option WorkerPart). length (answers_in o)) (slice_get_past r.workers.items worker over) in omega (arith, none))
