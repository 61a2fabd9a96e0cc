-- SPDX-License-Identifier: GPL-2.0-only
-- Each put of a generated script is added, where there is memory and no counter is used up.
use Rattle.shr_tool.proofs.Common.{◌≡◌, ℕ, zero, suc, ◌+◌, ◌*◌, ◌<◌, ◌≤◌, ◌^◌, inl, inr, cond, List, [], ◌∷◌, length, refl, sym, ap, ◌∙◌, subst, arith, slice_get, Option, Some, None, same_Some, Target, Command, Put, Unregister, Script, content_of, generated, is_offline, commands_of, ⊎_elim, option_map, filter_map, Contains, enumerate_from, slice_get_within, MayBeGenerated, parents_of, decls_on, answers_of, answer_at, journals_of, id_found}
use Rattle.std.specs.Option.{IsSomeAnd}
use Rattle.std.proofs.lemmas.Bool.{cases_lt}
use Rattle.shr_base.specs.declared.journals.PoolEntry.TheVariants.{Registered, Unregistered}
use Rattle.shr_base.specs.declared.places.At.{At}
use Rattle.shr_base.specs.declared.places.Serial.{Serial}
use Rattle.shr_base.specs.declared.replies.Answered.{Answered}
use Rattle.shr_base.specs.declared.replies.Reply.{Reply}
use Rattle.shr_base.specs.declared.replies.Reply.TheVariants as reply
use Rattle.shr_base.specs.declared.scripts.CacheDecl.{CacheDecl}
use Rattle.shr_model.proofs.Members.{Has, Contains_from_Has}
use Rattle.shr_laws.specs.declared.report.Report.{Report}
use Rattle.shr_laws.specs.Causes.{IsMadeBy}
use Rattle.shr_laws.specs.Faithful.{IsFaithful}
use Rattle.shr_laws.specs.Lawful.{IsLawful}
use Rattle.shr_laws.specs.Puts.{IsOnlyPut, StaysOn, StaysOnline, IsFreePut, IsAddedOrSpent, AreFreePutsAdded}
use Rattle.shr_laws.specs.PutSums.{IsEachAdded, DoPutsAddUp}
use Rattle.shr_laws.specs.WellFormed.{IsWellFormed}
use Rattle.shr_laws.specs.ReplyTable.{IsReply}
use Rattle.shr_laws.proofs.QuietSweep.{own_counts}
use Rattle.shr_gen.proofs.Reading.{few_commands}
use Rattle.shr_run.specs.Made.{IsReportOfRun}
use Rattle.shr_tool.specs.Summary.{replies_of, five_lines, IsUnhindered, HadEnough, IsSummary}
use Rattle.shr_tool.proofs.GeneratedCommands.{IsMade, IsPut, sums_agree, commands_in_all, made, put_made, offline_made, no_unregister, no_limit, no_later, goes_later, same_key}
use Rattle.shr_model.proofs.Lists.{there_at}

-- an answer that was neither hindered nor refused
added_of : (x : Reply) → IsAddedOrSpent x → IsUnhindered x → (c : At) × (x ≡ reply.Added c)
added_of (reply.Added c) h free = (c, refl)
added_of (reply.Worn spent) h free = absurd free
added_of reply.Memory h free = absurd free
added_of x h free = absurd h

-- ---- no registration ends

module _ (s : Script) (r : Report) (by : Serial) (n decl id to : ℕ) where
  -- only an `unregister` is answered that it ended one
  ends_none : (x : Reply) (c : Command) (found : Option ℕ) → ((d : ℕ) → c ≡ Unregister d → ⊥) → IsReply (parents_of s) (journals_of r) by c found x → IsMadeBy r (Unregistered decl id to) n x → ⊥
  ends_none (reply.Freed i entry from end objects) (Unregister d) found none h by_it = none d refl
  ends_none (reply.Freed i entry from end objects) c None none h by_it = h
  ends_none (reply.Freed i entry from end objects) c (Some held) none h by_it = h
  ends_none (reply.Half i entry from end objects half) (Unregister d) found none h by_it = none d refl
  ends_none (reply.Half i entry from end objects half) c None none h by_it = h
  ends_none (reply.Half i entry from end objects half) c (Some held) none h by_it = h
  ends_none x c found none h by_it = by_it

some_answer : (o : Option Answered) (P : Reply → Type 0) → IsSomeAnd (option_map (λ (a : Answered). a.reply) o) P → (a : Answered) × (o ≡ Some a) × P a.reply
some_answer None P h = absurd h
some_answer (Some a) P h = (a, refl, h)

three_on : (d : ℕ) → d < 3 → Has (0 ∷ 1 ∷ 2 ∷ []) d
three_on zero lt = inl refl
three_on (suc zero) lt = inr (inl refl)
three_on (suc (suc zero)) lt = inr (inr (inl refl))
three_on (suc (suc (suc d))) lt = absurd (omega (arith, lt))

module _ (s : Script) (r : Report) (seed workers commands : ℕ) (may : MayBeGenerated workers commands) (content : content_of s ≡ generated seed workers commands) (lawful : IsLawful s r) where
  -- no worker answers a sweep
  counts : (worker : ℕ) → length (answers_of r worker) ≡ length (commands_of s worker)
  counts = own_counts s r (ap (λ t. t.sweep) content) lawful.replies.counts

  -- each command has its reply
  pub replies_are : replies_of r ≡ workers * commands
  replies_are = sums_agree r.workers.items s.workers.items counts ∙ commands_in_all s seed workers commands content

  on : decls_on s ≡ 0 ∷ 1 ∷ 2 ∷ []
  on = ap (λ t. filter_map (λ (c : ℕ × CacheDecl). cond c.1.on (Some c.0) None) (enumerate_from 0 t.caches)) content

  few : (k : ℕ) → k < commands → k < 2 ^ 64
  few k lt = let most = few_commands workers commands may.some_workers may.most_commands in omega (arith, lt, most)

  -- the journal of registrations begins with those of the three caches, and no command ends one
  never_ends : (decl n id to : ℕ) → slice_get r.pool.items n ≡ Some (Unregistered decl id to) → ⊥
  never_ends decl n id to at = ⊎_elim first later (cases_lt n 3)
    where
      long : length (decls_on s) ≡ 3
      long = ap length on

      first : n < 3 → ⊥
      first lt = let t = there_at (decls_on s) n (omega (arith, long, lt)) in let opened = lawful.lookups.opened n t.0 t.1 in
          let no : Unregistered decl id to ≡ Registered t.0 n 0 = same_Some (Unregistered decl id to) (Registered t.0 n 0) (sym at ∙ opened) in absurd cc

      later : 3 ≤ n → ⊥
      later le =
          let t = lawful.causes.pool n (Unregistered decl id to) (omega (arith, long, le)) at in
          let a = some_answer (answer_at r t.0) (IsMadeBy r (Unregistered decl id to) n) t.1 in
          let within = slice_get_within (answers_of r t.0.worker) t.0.command a.0 a.1 in
          let count = counts t.0.worker in
          let c = there_at (commands_of s t.0.worker) t.0.command (omega (arith, within, count)) in
          ends_none s r t.0 n decl id to a.0.reply c.0 (id_found a.0) (λ d same. no_unregister s seed workers commands content t.0.worker t.0.command d (c.1 ∙ ap Some same)) (lawful.replies.answered t.0 c.0 a.0 c.1 a.1) a.2

  module _ (worker k : ℕ) (at : Target) (key value : List ℕ) (there : slice_get (commands_of s worker) k ≡ Some (Put at key value)) where
    mine : IsPut worker commands k at.group at.decl key
    mine = put_made s seed workers commands content worker k at key value there

    this : IsMade seed workers commands worker k (Put at key value)
    this = made s seed workers commands content worker k (Put at key value) there

    stays_on : StaysOn s r at.decl
    stays_on = record {
      on = subst (λ l. Contains l at.decl) (sym on) (Contains_from_Has (0 ∷ 1 ∷ 2 ∷ []) at.decl (three_on at.decl mine.decl_fits));
      kept = never_ends at.decl;
    }

    stays_online : StaysOnline s r worker k at.group
    stays_online = inr (λ by off.
        let last = offline_made s seed workers commands content by.worker by.command at.group off.command_is in
        let same : by.worker ≡ worker = (let one = mine.group_is in let two = last.group_is in omega (arith, one, two)) in
        (same, goes_later s seed workers commands content worker k by.command this.worker this.number mine.not_last (ap (λ w. is_offline w commands by.command) (sym same) ∙ last.last)))

    -- where another put of the same group and key finds its object
    abbrev other : ℕ → ℕ → Target
    other node decl = record { group = at.group; node = node; decl = decl }

    only : IsOnlyPut s worker k at.group key
    only = record {
      worker_is = λ w j node decl other_value e.
          let one = mine.group_is in
          let two = (put_made s seed workers commands content w j (other node decl) key other_value e).group_is in omega (arith, one, two);
      command_is = λ w j node decl other_value e.
          let two = put_made s seed workers commands content w j (other node decl) key other_value e in
          same_key j k (few j (made s seed workers commands content w j (Put (other node decl) key other_value) e).number) (few k this.number)
          (sym two.key_is ∙ mine.key_is);
    }

    free : IsFreePut s r worker k at.group at.decl key
    free = record { there = no_later s seed workers commands content at.group; unlimited = λ g above. no_limit s seed workers commands content g; online = stays_online; cached = stays_on; only = only }

  -- each put is added, where no answer is that memory was short or a counter used up
  pub each_added : AreFreePutsAdded s r → HadEnough r → IsEachAdded s r
  each_added puts enough worker k at key value a there answer =
      added_of a.reply (puts worker k at key value a there answer (free worker k at key value there)) (enough worker k a answer)

-- the five lines of a generated script's report
pub is_summary : (s : Script) (r : Report) (seed workers commands : ℕ) (answer : List ℕ) → MayBeGenerated workers commands → content_of s ≡ generated seed workers commands → IsLawful s r → IsFaithful s r → IsWellFormed r → IsReportOfRun s r → r.freed + r.listed ≡ r.added
    → AreFreePutsAdded s r → DoPutsAddUp s r → answer ≡ five_lines seed workers commands (replies_of r) r.added (r.freed + r.listed) → IsSummary seed workers commands answer
is_summary s r seed workers commands answer may content lawful faithful well of_run sums puts add_up lines = record {
  script = s;
  report = r;
  content = content;
  lawful = lawful;
  faithful = faithful;
  well_formed = well;
  made = of_run;
  lines = lines;
  replies = replies_are s r seed workers commands may content lawful;
  kept = sums;
  added = λ enough. add_up (each_added s r seed workers commands may content lawful puts enough);
}
