-- SPDX-License-Identifier: GPL-2.0-only
-- Causes of answers to an `offline` that was done, from the parts in which they are tested.
use Rattle.shr_audit_causes.proofs.OfflinesCommon.{◌≡◌, ◌≢◌, ℕ, ◌-◌, ◌^◌, ◌<◌, ◌≤◌, Bool, true, false, length, get_or, Option, Some, None, refl, sym, ap, subst, ◌∙◌, arith, min, option_map, Decides, IsSomeAnd, get_or_default, slice_get_past, WorkerPart, Serial, Answered, Reply, Command, Script, Report, IsOffline, MayHaveSpliced, objects_moved_from, answer_at, answers_in, answers_of, command_at, reply_at, serial_of, Whose, Nobody, BeganAbove, is_only, HasOfflineCause, IsCarriedSo, IsOfflineCausedAt, IsMoveRight, IsMovedSo, not, slice_get_within, IsAloneAt, IsOfflineDone, StandsInTree, EachAnswer, AreOfflineNotes, IsSoleSplicer, some_injective}
use Rattle.shr_base.specs.declared.journals.TreeEntry.TheVariants.{Done}
use Rattle.shr_base.specs.declared.replies.Reply.TheVariants as reply
use Rattle.shr_audit_case.proofs.Eachs.{decides_iff}
use Rattle.shr_model.specs.Commands.{group_named}
use Rattle.shr_audit_causes.specs.declared.offline_rows.Notes.{Notes}
use Rattle.shr_audit_causes.proofs.AboveLaws.{only_decided}

none_some : {X : Type 0} (a : X) → ◌≡◌ {A = Option X} None (Some a) → ⊥
none_some a e = cc

some_with : {X : Type 0} (P Q : X → Type 0) (o : Option X) → ((x : X) → P x → Q x) → IsSomeAnd o P → IsSomeAnd o Q
some_with P Q None to h = absurd h
some_with P Q (Some x) to h = to x h

-- ---- what is noted of a group

module _ (s : Script) (r : Report) (n : Notes) (notes : AreOfflineNotes s r n) (group : ℕ) (few : group < 65536) where
  pub whole_is : (whole : ℕ) → whole ≡ get_or n.moved.items group whole → whole ≡ min (objects_moved_from r group) (2 ^ 128 - 1)
  whole_is whole is =
      let long = notes.moved.count in
      let there : group < length n.moved.items = omega (arith, long, few) in
      is ∙ get_or_default n.moved.items group whole 0 there ∙ notes.moved.each group there

  read_spliced : (b : Bool) → b ≡ get_or n.spliced.items group b → b ≡ get_or n.spliced.items group false
  read_spliced b is = (let long = notes.spliced.count in is ∙ get_or_default n.spliced.items group b false (omega (arith, long, few)))

  read_above : (a : Whose) → a ≡ get_or n.above.items group a → a ≡ get_or n.above.items group Nobody
  read_above a is = (let long = notes.above.count in is ∙ get_or_default n.above.items group a Nobody (omega (arith, long, few)))

-- ---- who else may have spliced

module _ (s : Script) (r : Report) (n : Notes) (notes : AreOfflineNotes s r n) (worker group : ℕ) (few : group < 65536) where
  -- somebody may have, and told of none
  pub spliced_here : (b : Bool) → b ≡ get_or n.spliced.items group b → b ≡ true → Decides false (IsSoleSplicer s r worker group)
  spliced_here b is t = (λ f. absurd cc, λ alone. absurd (let x = (notes.spliced.each group few).0 (sym (read_spliced s r n notes group few b is) ∙ t) in alone.here x.0 x.1))

  pub alone_decided : (b : Bool) (a : Whose) (only : Bool) → b ≡ get_or n.spliced.items group b → b ≡ false → a ≡ get_or n.above.items group a → only ≡ is_only a worker → Decides only (IsSoleSplicer s r worker group)
  alone_decided b a only is f at say = subst (λ (x : Bool). Decides x (IsSoleSplicer s r worker group)) (sym say) (decides_iff (is_only a worker) ((w : ℕ) → w ≢ worker → BeganAbove s r group w → ⊥) (IsSoleSplicer s r worker group) to from
      (subst (λ (x : Whose). Decides (is_only x worker) ((w : ℕ) → w ≢ worker → BeganAbove s r group w → ⊥)) (sym (read_above s r n notes group few a at)) (only_decided (BeganAbove s r group) (get_or n.above.items group Nobody) worker (notes.above.each group few))))
    where
      to : ((w : ℕ) → w ≢ worker → BeganAbove s r group w → ⊥) → IsSoleSplicer s r worker group
      to none = record {
        here = λ x own. (let holds : true ≡ false = sym ((notes.spliced.each group few).1 (x, own)) ∙ sym (read_spliced s r n notes group few b is) ∙ f in cc);
        above = λ x g other apart on began. none x.worker other (record { at = g; other = apart; above = on; began = record { by = x; own = refl; began = began } });
      }

      from : IsSoleSplicer s r worker group → (w : ℕ) → w ≢ worker → BeganAbove s r group w → ⊥
      from alone w ne h = alone.above h.began.by h.at (λ same. ne (sym h.began.own ∙ same)) h.other h.above h.began.began

-- ---- how many were moved

module _ (s : Script) (r : Report) (worker group moved whole : ℕ) (is : whole ≡ min (objects_moved_from r group) (2 ^ 128 - 1)) (few : moved < 2 ^ 64) where
  pub move_whole : moved ≡ whole → Decides true (IsMoveRight s r worker group moved)
  move_whole e = (λ t. record { most = omega (arith, is, few, e); whole = λ alone. omega (arith, is, few, e) }, λ h. refl)

  pub move_over : whole < moved → Decides false (IsMoveRight s r worker group moved)
  move_over lt = (λ t. absurd cc, λ h. absurd (let most = h.most in omega (arith, lt, is, few, most)))

  pub move_part : (moved ≡ whole → ⊥) → moved ≤ whole → (alone : Bool) → Decides alone (IsSoleSplicer s r worker group) → Decides (not alone) (IsMoveRight s r worker group moved)
  move_part ne le true d = (λ t. absurd cc, λ h. absurd (let all = h.whole (d.0 refl) in ne (omega (arith, all, is, few))))
  move_part ne le false d = (λ t. record { most = omega (arith, le, is); whole = λ h. absurd (let holds = d.1 h in cc) }, λ h. refl)

-- ---- one reply

module _ (s : Script) (r : Report) (worker k : ℕ) (c : Command) where
  -- a command that was done hasn't spliced and told of none
  abbrev pub IsDone : Reply → Type 0
  IsDone x = reply_at r (serial_of worker k) ≡ Some x

  not_by : (x : Reply) (g : ℕ) (y : Serial) → (MayHaveSpliced x → ⊥) → IsDone x → y ≡ serial_of worker k → IsOffline s r y g MayHaveSpliced → ⊥
  not_by x g y not is same h = not (subst (λ (o : Option Reply). IsSomeAnd o MayHaveSpliced) (ap (reply_at r) same ∙ is) h.answer)

  alone_at : (g : ℕ) → IsSoleSplicer s r worker g → IsAloneAt s r (serial_of worker k) g
  alone_at g a = record { here = λ y ne h. a.here y h; above = a.above }

  alone_of : (x : Reply) (g : ℕ) → (MayHaveSpliced x → ⊥) → IsDone x → IsAloneAt s r (serial_of worker k) g → IsSoleSplicer s r worker g
  alone_of x g not is a = record { here = λ y h. a.here y (λ same. not_by x g y not is same h) h; above = a.above }

  parts_of : (x : Reply) → IsDone x → HasOfflineCause s r (serial_of worker k) c x → IsMovedSo s r worker (group_named c) x × IsCarriedSo r worker k x
  parts_of (reply.OfflineDone entry moved deferred) is h = (
    some_with (λ g. IsOfflineDone s r (serial_of worker k) g entry moved deferred) (λ g. StandsInTree r entry (Done g) × IsMoveRight s r worker g moved) (group_named c)
        (λ g o. (o.made, record { most = o.most; whole = λ a. o.whole (alone_at g a) })) h,
    carried (group_named c) h,
  )
    where
      carried : (o : Option ℕ) → IsSomeAnd o (λ g. IsOfflineDone s r (serial_of worker k) g entry moved deferred) → IsCarriedSo r worker k (reply.OfflineDone entry moved deferred)
      carried None o = absurd o
      carried (Some g) o = o.carried
  parts_of x is h = (tt, tt)

  of_parts : (x : Reply) → IsDone x → IsMovedSo s r worker (group_named c) x → IsCarriedSo r worker k x → HasOfflineCause s r (serial_of worker k) c x
  of_parts (reply.OfflineDone entry moved deferred) is h carried =
      some_with (λ g. StandsInTree r entry (Done g) × IsMoveRight s r worker g moved) (λ g. IsOfflineDone s r (serial_of worker k) g entry moved deferred) (group_named c)
      (λ g m. record { made = m.0; carried = carried; most = m.1.most; whole = λ a. m.1.whole (alone_of (reply.OfflineDone entry moved deferred) g (λ t. t) is a) }) h
  of_parts x is h carried = tt

-- ---- one answer

module _ (s : Script) (r : Report) (worker k : ℕ) where
  pub no_command : None ≡ command_at s (serial_of worker k) → Decides true (IsOfflineCausedAt s r worker k)
  no_command none = (λ t c a e f. absurd (none_some c (none ∙ e)), λ h. refl)

  pub no_answer : None ≡ answer_at r (serial_of worker k) → Decides true (IsOfflineCausedAt s r worker k)
  no_answer none = (λ t c a e f. absurd (none_some a (none ∙ f)), λ h. refl)

  module _ (c : Command) (a : Answered) (here : Some c ≡ command_at s (serial_of worker k)) (there : Some a ≡ answer_at r (serial_of worker k)) where
    reply_is : reply_at r (serial_of worker k) ≡ Some a.reply
    reply_is = ap (option_map (λ (x : Answered). x.reply)) (sym there)

    one_cause : HasOfflineCause s r (serial_of worker k) c a.reply → IsOfflineCausedAt s r worker k
    one_cause h d b e f = subst (λ (v : Command). HasOfflineCause s r (serial_of worker k) v b.reply) (some_injective c d (here ∙ e))
        (subst (λ (v : Answered). HasOfflineCause s r (serial_of worker k) c v.reply) (some_injective a b (there ∙ f)) h)

    parts_here : IsOfflineCausedAt s r worker k → IsMovedSo s r worker (group_named c) a.reply × IsCarriedSo r worker k a.reply
    parts_here h = parts_of s r worker k c a.reply reply_is (h c a (sym here) (sym there))

    pub carried_fails : (b : Bool) → Decides b (IsCarriedSo r worker k a.reply) → b ≡ false → Decides false (IsOfflineCausedAt s r worker k)
    carried_fails b d isnt = (λ t. absurd cc, λ h. absurd (let holds = d.1 (parts_here h).1 in cc))

    pub both_so : (b : Bool) → IsCarriedSo r worker k a.reply → Decides b (IsMovedSo s r worker (group_named c) a.reply) → Decides b (IsOfflineCausedAt s r worker k)
    both_so b carried d = (λ t. one_cause (of_parts s r worker k c a.reply reply_is (d.0 t) carried), λ h. d.1 (parts_here h).0)

    -- its number is below that of the worker's answers
    pub answer_there : k < length (answers_of r worker)
    answer_there = slice_get_within (answers_of r worker) k a (sym there)

-- past the last answer
pub past_caused : (s : Script) (r : Report) (worker k : ℕ) → length (answers_of r worker) ≤ k → IsOfflineCausedAt s r worker k
past_caused s r worker k over c a e f = absurd (none_some a (sym (slice_get_past (answers_of r worker) k over) ∙ f))

pub past_workers : (s : Script) (r : Report) (worker k : ℕ) → length r.workers.items ≤ worker → IsOfflineCausedAt s r worker k
past_workers s r worker k over = past_caused s r worker k (let none = ap (λ (o : Option WorkerPart). length (answers_in o)) (slice_get_past r.workers.items worker over) in omega (arith, none))

-- ---- all answers

pub each_caused : (s : Script) (r : Report) (b : Bool) → Decides b ((worker k : ℕ) → IsOfflineCausedAt s r worker k) → Decides b (EachAnswer s r (λ by c a. HasOfflineCause s r by c a.reply))
each_caused s r b d = decides_iff b ((worker k : ℕ) → IsOfflineCausedAt s r worker k) (EachAnswer s r (λ by c a. HasOfflineCause s r by c a.reply))
    (λ all by c a e f. all by.worker by.command c a e f) (λ all worker k c a e f. all (serial_of worker k) c a e f) d
