-- SPDX-License-Identifier: GPL-2.0-only
-- Each entry of the journals of registrations and of the tree, and each Drained, has its cause.
use Rattle.shr_lawful.proofs.Common.{◌≡◌, ℕ, ◌+◌, ◌≤◌, true, false, List, length, refl, sym, ap, subst, ◌∙◌, arith, eq-eqb, slice_get, Option, Some, None, option_map, IsSomeAnd, eqb-true, Serial, Place, Entry, Drained, PoolEntry, Answered, Reply, Script, phase_of, Made, Turn, place_id, Report, decls_on, serial_of, answer_at, reply_at, journals_of, IsOffline, MayHaveBegun, is_done_by, IsMadeBy, StandsInTree, Step, IsAmong, steps_of, IsCausedBy, IsDrainedByCommand, MayMakeEntry, Drains, IsBeginOf, IsEnded, IsEntryOf, IsTurnOf, IsRun, IsDoneOnce, is_made_by, IsMadeOnce, HasDrained, IsMaking}
use Rattle.shr_base.specs.declared.journals.PoolEntry.TheVariants as pool
use Rattle.shr_base.specs.declared.journals.TreeEntry.TheVariants.{Begin, Done, Made as MadeEntry}
use Rattle.shr_base.specs.declared.replies.Reply.TheVariants as reply
use Rattle.shr_charge.specs.Views as charge
use Rattle.shr_lawful.proofs.Gathering.{each_among, answers, maker, reply_is}
use Rattle.shr_lawful.proofs.Listed.{all_among}
use Rattle.shr_lawful.proofs.JournalsLaw.{entry_maker, one_entry_maker, turn_maker, pool_known}

-- an answer that cites a Done as its own made it
done_made : (s : Script) (y : Step) (n : ℕ) (x : Reply) → is_done_by n x ≡ true → IsCausedBy s y x → (group : ℕ) × IsAmong (record { number = n; entry = Done group }) y.work.tree
done_made s y n (reply.OfflineDone entry moved deferred) is h = (h.group, subst (λ i. IsAmong {A = charge.TreeMade} (record { number = i; entry = Done h.group }) y.work.tree) (eqb-true entry n is) h.made)
done_made s y n x is h = let t : false ≡ true = is in cc

-- and so is a Made
making_made : (s : Script) (y : Step) (n : ℕ) (x : Reply) → is_made_by n x ≡ true → IsCausedBy s y x → (group : ℕ) × IsAmong (record { number = n; entry = MadeEntry group }) y.work.tree
making_made s y n (reply.Made entry) is h = (h.group, subst (λ i. IsAmong {A = charge.TreeMade} (record { number = i; entry = MadeEntry h.group }) y.work.tree) (eqb-true entry n is) h.made)
making_made s y n x is h = let t : false ≡ true = is in cc

-- an answer that drained lists is one of those that may
has_drained : (id : ℕ) (x : Reply) → Drains id x → HasDrained x
has_drained id (reply.Freed i entry from to objects) h = tt
has_drained id (reply.Half i entry from to objects half) h = tt
has_drained id x h = absurd h

module _ (s : Script) (r : Report) (workers : List (List Step)) (run : IsRun s r workers) where
  -- the step of a reply
  pub record ReplyStep (by : Serial) (P : Reply → Type 0) : Type 0 where
    pub step : Step
    pub at : slice_get (steps_of workers by.worker) by.command ≡ Some step
    pub holds : P step.answered.reply

  pub reply_step : (by : Serial) (P : Reply → Type 0) → IsSomeAnd (reply_at r by) P → ReplyStep by P
  reply_step by P h = by_cases (answer_at r by) refl where
    by_cases : (o : Option Answered) → answer_at r by ≡ o → ReplyStep by P
    by_cases None e = absurd (subst (λ (z : Option Answered). IsSomeAnd (option_map (λ (a : Answered). a.reply) z) P) e h)
    by_cases (Some a) e = let t = answers s r workers run by.worker by.command a e in record {
      step = t.step;
      at = t.at;
      holds = subst (λ (y : Answered). P y.reply) (sym t.answered) (subst (λ (z : Option Answered). IsSomeAnd (option_map (λ (y : Answered). y.reply) z) P) e h);
    }

  same_serial : (x : Serial) (worker k : ℕ) → (x.worker ≡ worker) × (x.command ≡ k) → x ≡ serial_of worker k
  same_serial x worker k h = λ i. record { worker = h.0 i; command = h.1 i }

  pub begins_caused : (n group : ℕ) → StandsInTree r n (Begin group) → (by : Serial) × IsOffline s r by group MayHaveBegun
  begins_caused n group stands =
      let m = entry_maker s r workers run n (Begin group) stands in
      let is = run.steps.each m.worker m.k m.step m.at in
      let begun : IsBeginOf m.step group = subst (IsEntryOf s m.step m.made.number) m.entry (all_among (λ (z : charge.TreeMade). (length m.step.before.tree.known ≤ z.number) × IsEntryOf s m.step z.number z.entry) m.step.work.tree m.made is.did.tree.each m.among).1 in
      (serial_of m.worker m.k, record { command_is = is.command ∙ begun.command; answer = subst (λ o. IsSomeAnd o MayHaveBegun) (sym (reply_is s r workers run m.worker m.k m.step m.at)) begun.answer })

  pub dones_caused : (n group : ℕ) → StandsInTree r n (Done group) → IsDoneOnce r n
  dones_caused n group stands =
      let m = entry_maker s r workers run n (Done group) stands in
      let is = run.steps.each m.worker m.k m.step m.at in
      let ended : IsEnded s m.step group m.made.number = subst (IsEntryOf s m.step m.made.number) m.entry (all_among (λ (z : charge.TreeMade). (length m.step.before.tree.known ≤ z.number) × IsEntryOf s m.step z.number z.entry) m.step.work.tree m.made is.did.tree.each m.among).1 in
      record {
        by = serial_of m.worker m.k;
        cited = subst (λ o. IsSomeAnd o (λ x. is_done_by n x ≡ true)) (sym (reply_is s r workers run m.worker m.k m.step m.at)) (subst (λ i. is_done_by i m.step.answered.reply ≡ true) m.number ended.answer);
        once = λ x h.
            let t = reply_step x (λ y. is_done_by n y ≡ true) h in
            let made = done_made s t.step n t.step.answered.reply t.holds (run.steps.each x.worker x.command t.step t.at).did.cause in
            same_serial x m.worker m.k (one_entry_maker s r workers run x.worker x.command m.worker m.k t.step m.step (record { number = n; entry = Done made.0 }) m.made t.at m.at made.1 m.among (sym m.number));
      }

  pub mades_caused : (n group : ℕ) → StandsInTree r n (MadeEntry group) → IsMadeOnce r n
  mades_caused n group stands =
      let m = entry_maker s r workers run n (MadeEntry group) stands in
      let is = run.steps.each m.worker m.k m.step m.at in
      let making : IsMaking m.step group m.made.number = subst (IsEntryOf s m.step m.made.number) m.entry (all_among (λ (z : charge.TreeMade). (length m.step.before.tree.known ≤ z.number) × IsEntryOf s m.step z.number z.entry) m.step.work.tree m.made is.did.tree.each m.among).1 in
      record {
        by = serial_of m.worker m.k;
        cited = subst (λ o. IsSomeAnd o (λ x. is_made_by n x ≡ true)) (sym (reply_is s r workers run m.worker m.k m.step m.at)) (subst (λ x. is_made_by n x ≡ true) (sym (making.answer ∙ ap reply.Made m.number)) (eq-eqb n n refl));
        once = λ x h.
            let t = reply_step x (λ y. is_made_by n y ≡ true) h in
            let made = making_made s t.step n t.step.answered.reply t.holds (run.steps.each x.worker x.command t.step t.at).did.cause in
            same_serial x m.worker m.k (one_entry_maker s r workers run x.worker x.command m.worker m.k t.step m.step (record { number = n; entry = MadeEntry made.0 }) m.made t.at m.at made.1 m.among (sym m.number));
      }

  pub pool_caused : (n : ℕ) (e : PoolEntry) → length (decls_on s) ≤ n → slice_get r.pool.items n ≡ Some e → (by : Serial) × IsSomeAnd (reply_at r by) (IsMadeBy r e n)
  pool_caused n e past stands =
      let m = turn_maker s r workers run n e past stands in
      let of = each_among (λ (t : Turn). IsTurnOf m.step.after.core.turns.known t.entry t.number m.step.answered.reply) m.step.work.core.turns m.made (run.steps.each m.worker m.k m.step m.at).did.pool.turns m.among in (
        serial_of m.worker m.k,
        subst (λ o. IsSomeAnd o (IsMadeBy r e n)) (sym (reply_is s r workers run m.worker m.k m.step m.at))
            (made_by m.step m.worker m.k m.at e n m.step.answered.reply (subst (λ d. IsTurnOf m.step.after.core.turns.known d n m.step.answered.reply) m.entry (subst (λ i. IsTurnOf m.step.after.core.turns.known m.made.entry i m.step.answered.reply) m.number of))),
      ) where
        made_by : (x : Step) (worker k : ℕ) → slice_get (steps_of workers worker) k ≡ Some x → (e : PoolEntry) (n : ℕ) (y : Reply) → IsTurnOf x.after.core.turns.known e n y → IsMadeBy r e n y
        made_by x worker k at (pool.Registered decl id since) n (reply.Registered i entry) h = h
        made_by x worker k at (pool.Registered decl id since) n y h = absurd h
        made_by x worker k at (pool.Unregistered decl id until) n (reply.Freed i entry from to objects) h = h
        made_by x worker k at (pool.Unregistered decl id until) n (reply.Half i entry from to objects half) h = h
        made_by x worker k at (pool.Unregistered decl id until) n y h = absurd h
        made_by x worker k at (pool.Idle id) n (reply.Freed i entry from to objects) h = (
          h.0,
          h.1,
          ap (phase_of id) (sym (pool_known s r workers run worker k x at n (omega (arith, h.2))))
              ∙ (h.3 ∙ ap (λ l. phase_of id l + 1) (pool_known s r workers run worker k x at entry (omega (arith, h.1, h.2)))),
        )
        made_by x worker k at (pool.Idle id) n y h = absurd h

  pub drained_caused : (place : Place) (n : ℕ) (e : Entry) → slice_get (journals_of r place) n ≡ Some e → (by : Serial) (objects : ℕ) → e ≡ Drained by objects → IsSomeAnd (reply_at r by) HasDrained
  drained_caused place n e stands by objects is_it =
      let m = maker s r workers run place n e stands in
      let is = run.steps.each m.worker m.k m.step m.at in
      let may : IsDrainedByCommand m.step m.made by = subst (MayMakeEntry s m.step m.made) (m.entry ∙ is_it) (each_among (λ (z : Made). MayMakeEntry s m.step z z.entry) m.step.work.core.made m.made is.did.entries.each m.among) in
      subst (λ (b : Serial). IsSomeAnd (reply_at r b) HasDrained) (sym (may.own ∙ is.by)) (subst (λ o. IsSomeAnd o HasDrained) (sym (reply_is s r workers run m.worker m.k m.step m.at)) (has_drained (shr_id m.made) m.step.answered.reply may.drains)) where
        shr_id : Made → ℕ
        shr_id m = place_id m.place
