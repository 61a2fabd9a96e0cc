-- SPDX-License-Identifier: GPL-2.0-only
-- Causes of the answers to an `unregister` that drained, from the parts in which they are tested.
use Rattle.shr_audit_causes.proofs.UnregistersCommon.{◌≡◌, ℕ, ◌<◌, ◌≤◌, Bool, true, false, [], length, Option, Some, None, refl, sym, ap, subst, ◌∙◌, arith, slice_get, Decides, Drained, Place, Serial, Script, Report, journals_of, serial_of, IsEndedSo, IsOfId, IsDrainPlaced, id_drained, id_drained_by, HasEnd, HasHalfReason, HasUnregisterCause, IsUnregisterCausedAt, as_ended, option_and_then, option_map, IsFreed, IsHalf, IsWhy, EachAnswer, EachEntry, answer_at, answers_in, answers_of, command_at, reply_at, some_injective}
use Rattle.std.specs.Option.{IsSomeAnd}
use Rattle.std.proofs.lemmas.Option.{slice_get_past, slice_get_within}
use Rattle.shr_base.specs.declared.ends.WorkerPart.{WorkerPart}
use Rattle.shr_base.specs.declared.replies.Answered.{Answered}
use Rattle.shr_base.specs.declared.replies.HalfWhy.{HalfWhy}
use Rattle.shr_base.specs.declared.replies.Reply.{Reply}
use Rattle.shr_base.specs.declared.replies.Reply.TheVariants as reply
use Rattle.shr_base.specs.declared.scripts.Command.{Command}
use Rattle.shr_audit_case.proofs.Eachs.{decides_iff}
use Rattle.shr_model.specs.Commands.{decl_named}

none_some : {X : Type 0} (a : X) → ◌≡◌ {A = Option X} None (Some a) → ⊥
none_some a e = cc

-- ---- one reply

-- each list that a command drained is of this id
abbrev AreOf : Report → Serial → ℕ → Type 0
AreOf r by id = EachEntry r (λ place n e. (m : ℕ) → e ≡ Drained by m → place.id ≡ id)

module _ (s : Script) (r : Report) (by : Serial) (id entry from to objects : ℕ) where
  freed_end : (o : Option ℕ) → IsSomeAnd o (λ d. IsFreed r by d id entry from to objects) → IsSomeAnd o (λ d. IsEndedSo r by d (as_ended id entry from to objects) true)
  freed_end None h = absurd h
  freed_end (Some d) h = record { end = record { made = h.unregistered.made; from_is = h.unregistered.from_is; drained = h.unregistered.drained }; idle_is = h.idle }

  freed_of : (o : Option ℕ) → IsSomeAnd o (λ d. IsFreed r by d id entry from to objects) → AreOf r by id
  freed_of None h = absurd h
  freed_of (Some d) h = h.unregistered.places

  freed_from : (o : Option ℕ) → IsSomeAnd o (λ d. IsEndedSo r by d (as_ended id entry from to objects) true) → AreOf r by id → IsSomeAnd o (λ d. IsFreed r by d id entry from to objects)
  freed_from None h of = absurd h
  freed_from (Some d) h of = record { unregistered = record { made = h.end.made; from_is = h.end.from_is; drained = h.end.drained; places = of }; idle = h.idle_is }

  module _ (why : HalfWhy) where
    half_end : (o : Option ℕ) → IsSomeAnd o (λ d. IsHalf s r by d id entry from to objects why) → IsSomeAnd o (λ d. IsEndedSo r by d (as_ended id entry from to objects) false)
    half_end None h = absurd h
    half_end (Some d) h = record { end = record { made = h.unregistered.made; from_is = h.unregistered.from_is; drained = h.unregistered.drained }; idle_is = h.dying }

    half_of : (o : Option ℕ) → IsSomeAnd o (λ d. IsHalf s r by d id entry from to objects why) → AreOf r by id
    half_of None h = absurd h
    half_of (Some d) h = h.unregistered.places

    half_why : (o : Option ℕ) → IsSomeAnd o (λ d. IsHalf s r by d id entry from to objects why) → IsWhy s r by.worker why
    half_why None h = absurd h
    half_why (Some d) h = h.reason

    half_from : (o : Option ℕ) → IsSomeAnd o (λ d. IsEndedSo r by d (as_ended id entry from to objects) false) → IsWhy s r by.worker why → AreOf r by id → IsSomeAnd o (λ d. IsHalf s r by d id entry from to objects why)
    half_from None h reason of = absurd h
    half_from (Some d) h reason of = record { unregistered = record { made = h.end.made; from_is = h.end.from_is; drained = h.end.drained; places = of }; dying = h.idle_is; reason = reason }

module _ (s : Script) (r : Report) (by : Serial) (c : Command) where
  end_of : (x : Reply) → HasUnregisterCause s r by c x → HasEnd r by c x
  end_of (reply.Freed id entry from to objects) h = freed_end s r by id entry from to objects (decl_named c) h
  end_of (reply.Half id entry from to objects why) h = half_end s r by id entry from to objects why (decl_named c) h
  end_of x h = tt

  reason_of : (x : Reply) → HasUnregisterCause s r by c x → HasHalfReason s r by.worker x
  reason_of (reply.Half id entry from to objects why) h = half_why s r by id entry from to objects why (decl_named c) h
  reason_of x h = tt

  places_of : (x : Reply) (id : ℕ) → id_drained x ≡ Some id → HasUnregisterCause s r by c x → AreOf r by id
  places_of (reply.Freed i entry from to objects) id e h = subst (AreOf r by) (some_injective i id e) (freed_of s r by i entry from to objects (decl_named c) h)
  places_of (reply.Half i entry from to objects why) id e h = subst (AreOf r by) (some_injective i id e) (half_of s r by i entry from to objects why (decl_named c) h)
  places_of x id e h = absurd (none_some id e)

  whole_of : (x : Reply) → HasEnd r by c x → HasHalfReason s r by.worker x → ((id : ℕ) → id_drained x ≡ Some id → AreOf r by id) → HasUnregisterCause s r by c x
  whole_of (reply.Freed id entry from to objects) end reason of = freed_from s r by id entry from to objects (decl_named c) end (of id refl)
  whole_of (reply.Half id entry from to objects why) end reason of = half_from s r by id entry from to objects why (decl_named c) end reason (of id refl)
  whole_of x end reason of = tt

-- ---- all answers

told_here : (s : Script) (r : Report) (by : Serial) (c : Command) (a : Answered) → command_at s by ≡ Some c → answer_at r by ≡ Some a → id_drained_by s r by ≡ id_drained a.reply
told_here s r by c a here there =
    ap (λ (x : Option Command). option_and_then (λ (d : Command). option_and_then id_drained (reply_at r by)) x) here
    ∙ ap (λ (x : Option Answered). option_and_then id_drained (option_map (λ (b : Answered). b.reply) x)) there

module _ (s : Script) (r : Report) where
  abbrev pub AllCaused : Type 0
  AllCaused = EachAnswer s r (λ by c a. HasUnregisterCause s r by c a.reply)

  abbrev pub AllPlaced : Type 0
  AllPlaced = EachEntry r (λ place n e. IsDrainPlaced s r place e)

  caused_of : AllCaused → (worker k : ℕ) → IsUnregisterCausedAt s r worker k
  caused_of all worker k c a here there = (let h = all (serial_of worker k) c a here there in (end_of s r (serial_of worker k) c a.reply h, reason_of s r (serial_of worker k) c a.reply h))

  module _ (all : AllCaused) (by : Serial) (objects : ℕ) (place : Place) (n : ℕ) (at : slice_get (journals_of r place) n ≡ Some (Drained by objects)) where
    of_reply : (c : Command) (a : Answered) → command_at s by ≡ Some c → answer_at r by ≡ Some a → (told : Option ℕ) → id_drained a.reply ≡ told → IsOfId place told
    of_reply c a here there None e = tt
    of_reply c a here there (Some id) e = places_of s r by c a.reply id e (all by c a here there) place n (Drained by objects) at objects refl

    drain_of : IsOfId place (id_drained_by s r by)
    drain_of = by_parts (command_at s by) refl (answer_at r by) refl
      where
        by_parts : (x : Option Command) → command_at s by ≡ x → (y : Option Answered) → answer_at r by ≡ y → IsOfId place (option_and_then (λ (c : Command). option_and_then id_drained (option_map (λ (b : Answered). b.reply) y)) x)
        by_parts None e y f = tt
        by_parts (Some c) e None f = tt
        by_parts (Some c) e (Some a) f = of_reply c a e f (id_drained a.reply) refl

  placed_of : AllCaused → AllPlaced
  placed_of all place n (Drained by objects) at = drain_of all by objects place n at
  placed_of all place n e at = tt

  are_of : AllPlaced → (by : Serial) (id : ℕ) → id_drained_by s r by ≡ Some id → AreOf r by id
  are_of placed by id told place n e at m is =
      subst (IsOfId place) told (subst (IsDrainPlaced s r place) is (placed place n e at))

  all_of : ((worker k : ℕ) → IsUnregisterCausedAt s r worker k) → AllPlaced → AllCaused
  all_of own placed by c a here there = (let h = own by.worker by.command c a here there in
      whole_of s r by c a.reply h.0 h.1 (λ id e. are_of placed by id (told_here s r by c a here there ∙ e)))

  pub rows_fail : (b : Bool) → Decides b ((worker k : ℕ) → IsUnregisterCausedAt s r worker k) → b ≡ false → Decides false AllCaused
  rows_fail b d isnt = (λ t. absurd cc, λ h. absurd (let holds = d.1 (caused_of h) in cc))

  pub rows_decided : (b : Bool) → ((worker k : ℕ) → IsUnregisterCausedAt s r worker k) → Decides b AllPlaced → Decides b AllCaused
  rows_decided b own d = decides_iff b AllPlaced AllCaused (all_of own) placed_of d

-- ---- one answer

module _ (s : Script) (r : Report) (worker k : ℕ) where
  pub no_command : None ≡ command_at s (serial_of worker k) → Decides true (IsUnregisterCausedAt s r worker k)
  no_command none = (λ t c a e f. absurd (none_some c (none ∙ e)), λ h. refl)

  pub no_answer : None ≡ answer_at r (serial_of worker k) → Decides true (IsUnregisterCausedAt s r worker k)
  no_answer none = (λ t c a e f. absurd (none_some a (none ∙ f)), λ h. refl)

  module _ (c : Command) (a : Answered) (here : Some c ≡ command_at s (serial_of worker k)) (there : Some a ≡ answer_at r (serial_of worker k)) where
    pub end_fails : (b : Bool) → Decides b (HasEnd r (serial_of worker k) c a.reply) → b ≡ false → Decides false (IsUnregisterCausedAt s r worker k)
    end_fails b d isnt = (λ t. absurd cc, λ h. absurd (let holds = d.1 (h c a (sym here) (sym there)).0 in cc))

    pub reason_too : (b : Bool) → HasEnd r (serial_of worker k) c a.reply → Decides b (HasHalfReason s r worker a.reply) → Decides b (IsUnregisterCausedAt s r worker k)
    reason_too b end d = (
      λ t x y e f. subst (λ (v : Command). HasEnd r (serial_of worker k) v y.reply × HasHalfReason s r worker y.reply) (some_injective c x (here ∙ e))
          (subst (λ (v : Answered). HasEnd r (serial_of worker k) c v.reply × HasHalfReason s r worker v.reply) (some_injective a y (there ∙ f)) (end, d.0 t)),
      λ h. d.1 (h c a (sym here) (sym there)).1,
    )

    from_part : (o : Option WorkerPart) → slice_get r.workers.items worker ≡ o → slice_get (answers_in o) k ≡ Some a → worker < length r.workers.items
    from_part None e h = absurd (let lt = slice_get_within [] k a h in omega (arith, lt))
    from_part (Some part) e h = slice_get_within r.workers.items worker part e

    pub part_there : worker < length r.workers.items
    part_there = from_part (slice_get r.workers.items worker) refl (sym there)

-- past the last answer
pub past_caused : (s : Script) (r : Report) (worker k : ℕ) → length (answers_of r worker) ≤ k → IsUnregisterCausedAt s r worker k
past_caused s r worker k over c a e f = absurd (none_some a (sym (slice_get_past (answers_of r worker) k over) ∙ f))

pub past_workers : (s : Script) (r : Report) (worker k : ℕ) → length r.workers.items ≤ worker → IsUnregisterCausedAt s r worker k
past_workers s r worker k over = past_caused s r worker k (let none = ap (λ (o : Option WorkerPart). length (answers_in o)) (slice_get_past r.workers.items worker over) in omega (arith, none))
