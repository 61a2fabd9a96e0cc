-- SPDX-License-Identifier: GPL-2.0-only
-- The law of causes, of a run.
use Rattle.shr_lawful.proofs.Common.{◌≡◌, ℕ, ⊎_elim, List, sym, refl, subst, ap, ◌∙◌, slice_get, Some, option_and_then, Option, IsSomeAnd, Serial, Registered, Begin, Done, Answered, HalfWhy, Reply, Spent, Command, Release, Grab, Script, group_named, decl_named, Report, serial_of, command_at, answer_at, IsSpent, IsUnmade, IsOver, IsUncached, IsCached, IsFull, IsFreed, IsInTheWay, IsOfflineDone, StandsInTree, group_met, HasCause, Step, steps_of, IsWhyBy, IsUsedUpBy, IsCausedBy, Drains, IsRun, begin_at, made_at, IsHalf, IsWhy, IsUsedUp, IsPoolWorn, plain_worn}
use Rattle.shr_base.specs.declared.journals.TreeEntry.TheVariants.{Made}
use Rattle.shr_base.specs.declared.replies.HalfWhy.TheVariants as why
use Rattle.shr_base.specs.declared.replies.Reply.TheVariants as reply
use Rattle.shr_laws.specs.CausesLawful.{AreCausesLawful}
use Rattle.shr_lawful.proofs.UnitWornLaw.{pool_worn}
use Rattle.shr_lawful.proofs.AnswerCauses.{over_caused, uncached, cached, full, registered, was_done, in_the_way}
use Rattle.shr_lawful.proofs.EntryCauses.{begins_caused, dones_caused, mades_caused, pool_caused, drained_caused}
use Rattle.shr_lawful.proofs.FreshLaw.{fresh_law}
use Rattle.shr_lawful.proofs.Gathering.{stepped, reply_is}
use Rattle.shr_lawful.proofs.OfflinedCause.{offlined}
use Rattle.shr_lawful.proofs.PoolCauses.{unregistered, freed, half}
use Rattle.shr_lawful.proofs.JournalsLaw.{entry_stands, word_stands, tree_stands}
use Rattle.shr_lawful.proofs.WalkCauses.{spent_law, walk_caused, attempt_caused, pass_caused}

module _ (s : Script) (r : Report) (workers : List (List Step)) (run : IsRun s r workers) where
  why_is : (worker k : ℕ) (x : Step) → slice_get (steps_of workers worker) k ≡ Some x → (w : HalfWhy) → IsWhyBy s x w → IsWhy s r worker w
  why_is worker k x at why.Memory h = tt
  why_is worker k x at (why.Worn z) h = spent_law s r workers run worker k x z at h

  -- the command names this group, or meets it, or names this declaration
  of_group : (P : ℕ → Type 0) (x : Step) (c : Command) → x.command ≡ Some c → (g : ℕ) → option_and_then group_named x.command ≡ Some g → P g → IsSomeAnd (group_named c) P
  of_group P x c is g named h = subst (λ o. IsSomeAnd o P) (sym named ∙ ap (option_and_then group_named) is) h

  of_met : (P : ℕ → Type 0) (x : Step) (c : Command) → x.command ≡ Some c → (g : ℕ) → option_and_then (group_met s) x.command ≡ Some g → P g → IsSomeAnd (group_met s c) P
  of_met P x c is g met h = subst (λ o. IsSomeAnd o P) (sym met ∙ ap (option_and_then (group_met s)) is) h

  of_decl : (P : ℕ → Type 0) (x : Step) (c : Command) → x.command ≡ Some c → (d : ℕ) → option_and_then decl_named x.command ≡ Some d → P d → IsSomeAnd (decl_named c) P
  of_decl P x c is d named h = subst (λ o. IsSomeAnd o P) (sym named ∙ ap (option_and_then decl_named) is) h

  -- what a command found used up is so, at a pool by the law on pools
  used_up : (worker k : ℕ) (x : Step) → slice_get (steps_of workers worker) k ≡ Some x → x.by.worker ≡ worker → (c : Command) (z : Spent) → IsPoolWorn s r c z → IsUsedUpBy s x (Some c) z → IsUsedUp s r x.by c z
  used_up worker k x at own (Release node p units) z pool h = pool
  used_up worker k x at own (Grab node p) z pool h = pool
  used_up worker k x at own c z pool h = subst (λ w. IsSpent s r w z) (sym own) (spent_law s r workers run worker k x z at h)

  caused : (worker k : ℕ) (x : Step) → slice_get (steps_of workers worker) k ≡ Some x → x.by.worker ≡ worker → (c : Command) → x.command ≡ Some c → (y : Reply) → x.answered.reply ≡ y → IsCausedBy s x y → HasCause s r x.by c y
  caused worker k x at own c is (reply.Offline entry) answer h = of_met (λ g. StandsInTree r entry (Begin g)) x c is h.group h.met
      (⊎_elim (λ w. word_stands s r workers run worker k x at h.group entry w) (λ b. tree_stands s r workers run worker k x at entry (Begin h.group) (begin_at x.after.tree.known h.group entry b)) h.told)
  caused worker k x at own c is (reply.NotMade g) answer h = of_met (λ n. IsUnmade s n g) x c is g h.met (record { named = refl; late = h.late })
  caused worker k x at own c is (reply.Made entry) answer h = of_group (λ g. StandsInTree r entry (Made g)) x c is h.group h.named (entry_stands s r workers run worker k x (record { number = entry; entry = Made h.group }) at h.made)
  caused worker k x at own c is (reply.AlreadyMade entry) answer h = of_group (λ g. StandsInTree r entry (Made g)) x c is h.group h.named (tree_stands s r workers run worker k x at entry (Made h.group) (made_at x.after.tree.known h.group entry h.made))
  caused worker k x at own c is (reply.Over g operation usage) answer h = of_group (λ n. IsOver s r x.by n g operation usage) x c is h.own h.named (over_caused s r workers run worker k x at g operation usage h)
  caused worker k x at own c is (reply.NoCache entry) answer h = of_decl (λ d. IsUncached s r d entry) x c is h.decl h.named (uncached s r workers run worker k x at entry h)
  caused worker k x at own c is (reply.Worn spent) answer h = used_up worker k x at own c spent
      (pool_worn s r run.plain run.units (serial_of worker k) c spent ((run.steps.each worker k x at).command ∙ is) (reply_is s r workers run worker k x at ∙ ap Some answer)) (subst (λ (o : Option Command). IsUsedUpBy s x o spent) is h)
  caused worker k x at own c is (reply.OfflineDone entry moved deferred) answer h = of_group (λ g. IsOfflineDone s r x.by g entry moved deferred) x c is h.group h.named (offlined s r workers run worker k x at entry moved deferred h)
  caused worker k x at own c is (reply.AlreadyDone entry) answer h = of_group (λ g. StandsInTree r entry (Done g)) x c is h.group h.named (was_done s r workers run worker k x at entry h)
  caused worker k x at own c is reply.Root answer h = of_group (λ g. g ≡ 0) x c is 0 h refl
  caused worker k x at own c is (reply.HasChildren child entry) answer h = of_group (λ g. IsInTheWay s r g child entry) x c is h.group h.named (in_the_way s r workers run worker k x at child entry h)
  caused worker k x at own c is (reply.Registered i entry) answer h = of_decl (λ d. (from : ℕ) × (slice_get r.pool.items entry ≡ Some (Registered d i from))) x c is h.decl h.named (h.from, registered s r workers run worker k x at i entry h)
  caused worker k x at own c is (reply.AlreadyRegistered entry) answer h = of_decl (λ d. IsCached s r d entry) x c is h.decl h.named (cached s r workers run worker k x at entry h)
  caused worker k x at own c is (reply.NoId entry) answer h = of_decl (λ d. IsFull s r d entry) x c is h.uncached.decl h.uncached.named (full s r workers run worker k x at entry h)
  caused worker k x at own c is (reply.Freed i entry from to objects) answer h = of_decl (λ d. IsFreed r x.by d i entry from to objects) x c is h.unregistered.decl h.unregistered.named (freed s r workers run worker k x at i entry from to objects h answer)
  caused worker k x at own c is (reply.Half i entry from to objects w) answer h = of_decl (λ d. IsHalf s r x.by d i entry from to objects w) x c is h.unregistered.decl h.unregistered.named (record {
    unregistered = unregistered s r workers run worker k x at i entry from to objects h.unregistered (λ z d. sym (subst (Drains z) answer d));
    dying = half s r workers run worker k x at i entry from to objects w h answer;
    reason = subst (λ v. IsWhy s r v w) (sym own) (why_is worker k x at w h.reason);
  })
  caused worker k x at own c is y answer h = tt

  rows : (by : Serial) (c : Command) (a : Answered) → command_at s by ≡ Some c → answer_at r by ≡ Some a → HasCause s r by c a.reply
  rows by c a command answer =
      let t = stepped s r workers run by c a command answer in
      let row = caused by.worker by.command t.step t.at (ap (λ (b : Serial). b.worker) t.own) c t.command t.step.answered.reply refl t.did.cause in
      subst (λ (b : Serial). HasCause s r b c a.reply) t.own (subst (λ (y : Answered). HasCause s r t.step.by c y.reply) t.answered row)

  pub causes_lawful : AreCausesLawful s r
  causes_lawful = record {
    rows = rows;
    walks = walk_caused s r workers run;
    attempts = attempt_caused s r workers run;
    passes = pass_caused s r workers run;
    plain = plain_worn s r run.plain run.units;
    begins = begins_caused s r workers run;
    dones = dones_caused s r workers run;
    mades = mades_caused s r workers run;
    pool = pool_caused s r workers run;
    drained = drained_caused s r workers run;
    fresh = fresh_law s r workers run;
  }
