-- SPDX-License-Identifier: GPL-2.0-only
-- A pool's journal that was found used up, of a run.
use Rattle.shr_lawful.proofs.UnitsCommon.{◌≡◌, ℕ, ◌+◌, ◌<◌, ◌≤◌, List, ◌++◌, length, take, sym, refl, ap, subst, ◌∙◌, arith, length-append, slice_get, Some, ◌^◌, take-append_seam, PlainEntry, Place, Serial, Reply, Spent, Command, Release, Grab, Script, free_of, IsPlaceOf, row_of, Begins, row_low, RoomView, GrabAnswer, ReleaseAnswer, Sees, IsJournalWorn, ReleaseGives, GrabGives, settings_of, pool_sizes, IsPoolOf, Report, IsPoolSpent, command_at, reply_at, pool_place, units_journal, home_of, home_room, units_release_reply, units_grab_reply, DidUnitsOf, UnitsStep, units_steps_of, AreUnits, IsPoolWorn}
use Rattle.shr_base.specs.declared.replies.Reply.TheVariants as reply
use Rattle.shr_plain.specs.declared.answers.GrabAnswer.TheVariants as grab
use Rattle.shr_plain.specs.declared.answers.ReleaseAnswer.TheVariants as release
use Rattle.shr_lawful.proofs.UnitPooling.{home_there, pool_place_is}
use Rattle.shr_lawful.proofs.UnitMaking.{known_is, Stepped, stepped}
use Rattle.shr_lawful.proofs.UnitCiting.{journal_at, sees_part}

abbrev spent_in : Spent → Reply → Spent
spent_in d (reply.Worn x) = x
spent_in d y = d

abbrev IsWornReply : Reply → Type 0
IsWornReply (reply.Worn x) = Unit {0}
IsWornReply y = ⊥

module _ (s : Script) (r : Report) (workers : List (List UnitsStep)) (run : AreUnits s r workers) where
  -- a beginning of a journal that is as long as any may be is all of it
  pub pool_spent : (p : Place) → IsPlaceOf (pool_sizes s) p → (journal : List PlainEntry) → Begins journal (run.journal (row_of (pool_sizes s) p)) → (x : Spent) → IsJournalWorn p journal x → IsPoolSpent r p x
  pool_spent p there journal b x worn =
      let here = journal_at s r workers run p there in
      let whole : length (units_journal r p) ≡ length (journal ++ b.0) = ap (λ (l : List PlainEntry). length l) (here ∙ b.1) in
      let all : length (run.journal (row_of (pool_sizes s) p)) ≡ length (journal ++ b.0) = ap (λ (l : List PlainEntry). length l) b.1 in
      let long = length-append journal b.0 in
      let full = worn.full in
      let short = (run.rooms (row_of (pool_sizes s) p) (row_low (pool_sizes s) p there)).short in
      subst (IsPoolSpent r p) (sym worn.spent) (
        refl,
        omega (arith, full),
        omega (arith, whole, all, long, full, short),
        ap free_of (sym (ap (take (length journal)) (here ∙ b.1) ∙ take-append_seam journal b.0)),
      )

  -- what a call that found it used up had seen
  seen_spent : (worker k : ℕ) (x : UnitsStep) → slice_get (units_steps_of workers worker) k ≡ Some x → (node pool : ℕ) → IsPoolOf (settings_of s) (pool_sizes s) pool node → (journal : List PlainEntry) → Sees (home_room s pool node) x.before x.after journal
      → (y : Spent) → IsJournalWorn (home_of s pool node) journal y → IsPoolSpent r (pool_place s pool node) y
  seen_spent worker k x at node pool there journal sees y worn =
      let i = home_room s pool node in
      let b : Begins journal (run.journal i) = subst (λ (v : RoomView PlainEntry). Begins v.known (run.journal i)) (sees_part i x.before x.after journal sees) (known_is s r workers run worker i (row_low (pool_sizes s) (home_of s pool node) (home_there s pool node there)) k x at) in
      subst (λ (q : Place). IsPoolSpent r q y) (pool_place_is s pool node) (pool_spent (home_of s pool node) (home_there s pool node there) journal b y worn)

  of_kind : (worker k : ℕ) (x : UnitsStep) → slice_get (units_steps_of workers worker) k ≡ Some x → (c : Command) → DidUnitsOf s x.by c x.reply x.before x.after → (y : Spent) → x.reply ≡ reply.Worn y → IsPoolWorn s r c y
  of_kind worker k x at (Release node pool n) did y e = by_answer did.answer (sym did.told ∙ e) did.gives
    where
      by_answer : (a : ReleaseAnswer) → units_release_reply (home_of s pool node) a ≡ reply.Worn y → ReleaseGives (home_of s pool node) (home_room s pool node) x.by n a x.before x.after → IsPoolSpent r (pool_place s pool node) y
      by_answer (release.Full entries free) told g = absurd (subst IsWornReply (sym told) tt)
      by_answer (release.Worn z) told g = seen_spent worker k x at node pool did.there g.0 g.1 y (subst (IsJournalWorn (home_of s pool node) g.0) (ap (spent_in z) told) g.2)
      by_answer release.Memory told g = absurd (subst IsWornReply (sym told) tt)
      by_answer (release.Released entry) told g = absurd (subst IsWornReply (sym told) tt)
  of_kind worker k x at (Grab node pool) did y e = by_answer did.answer (sym did.told ∙ e) did.gives
    where
      by_answer : (a : GrabAnswer) → units_grab_reply (home_of s pool node) a ≡ reply.Worn y → GrabGives (home_of s pool node) (home_room s pool node) x.by a x.before x.after → IsPoolSpent r (pool_place s pool node) y
      by_answer (grab.Worn z) told g = seen_spent worker k x at node pool did.there g.0 g.1 y (subst (IsJournalWorn (home_of s pool node) g.0) (ap (spent_in z) told) g.2)
      by_answer grab.Memory told g = absurd (subst IsWornReply (sym told) tt)
      by_answer (grab.Grabbed entry) told g = absurd (subst IsWornReply (sym told) tt)
      by_answer (grab.Bare entry) told g = absurd (subst IsWornReply (sym told) tt)
  of_kind worker k x at c did y e = tt

  -- a command on a pool is worn only if the pool's journal was used up
  pub pool_worn : (by : Serial) (c : Command) (y : Spent) → command_at s by ≡ Some c → reply_at r by ≡ Some (reply.Worn y) → IsPoolWorn s r c y
  pool_worn by c y command answer =
      let t : Stepped s r workers run by c (reply.Worn y) = stepped s r workers run by c (reply.Worn y) command answer in
      subst (λ (d : Command). IsPoolWorn s r d y) t.command (of_kind by.worker by.command t.step t.at t.step.command (run.each by.worker by.command t.step t.at).did y t.reply)
