-- SPDX-License-Identifier: GPL-2.0-only
-- What a register did.
use Rattle.shr_assemble.proofs.Common.{◌≡◌, ℕ, ◌+◌, ◌≤◌, true, false, List, [], ◌∷◌, length, length-append, take, refl, sym, ap, subst, ◌∙◌, arith, None, none-some, PoolEntry, Registered, Serial, Answered, Reply, Command, Family, is_live_decl, lowest_idle, nothing, Adds, Loaded, Turn, shape_of, Shared, WorkerState, Work, unfound, parents_of, cited_by, IsReply, is_past_group, Step, IsCausedBy, DidPool, IsTurnOf, each_one, register_reply, take_all}
use Rattle.shr_base.specs.declared.replies.Reply.TheVariants as reply
use Rattle.shr_base.specs.declared.scripts.Command.TheVariants as command
use Rattle.shr_registry.specs.declared.answers.RegisterAnswer.{RegisterAnswer}
use Rattle.shr_registry.specs.declared.answers.RegisterAnswer.TheVariants as register
use Rattle.shr_registry.specs.Answers.{RegisterGives}
use Rattle.shr_worker.specs.Commands as worker
use Rattle.shr_assemble.proofs.QuietTenant.{brings_of, without, no_entries, unfound_lookups}
use Rattle.shr_assemble.proofs.QuietSteps.{step_of, HasDid, still_charges, still_pool, still_tree, meets_none, never_met, quiet_did, AreTables, gaining, does_gain}
use Rattle.shr_lawful.proofs.FreshLaw.{begins_length}

module _ (x : Shared) (tables : AreTables x) (by : Serial) (decl : ℕ) (s t : WorkerState) (rest : t ≡ record s { core = t.core }) where
  abbrev asked : Command
  asked = command.Register decl

  -- what the registry brought
  abbrev bringing : List Loaded → List Turn → Work
  bringing words turns = gaining (record nothing { turns = turns; loaded = words; gives = 1 })

  abbrev registers : Reply → List Loaded → List Turn → Step
  registers r words turns = step_of by asked (without r) s t (bringing words turns)

  brought : (r : Reply) (words : List Loaded) (turns : List Turn) → Adds s.core t.core (record nothing { turns = turns; loaded = words; gives = 1 }) → ((family : Family) → IsReply (parents_of x.script) family by asked None r) → cited_by r ≡ None
      → DidPool x.script (registers r words turns) → IsCausedBy x.script (registers r words turns) r → HasDid x.script by asked (without r) s t
  brought r words turns adds row uncited pool cause =
      let z : Step = registers r words turns in
      quiet_did z.work tt (record { walks = refl; seen = refl; maps = refl; cleared = refl; takes = refl; gives = refl; carries = refl })
      (brings_of (does_gain s t (record nothing { turns = turns; loaded = words; gives = 1 }) adds rest))
      (no_entries x.script z refl refl row uncited) (unfound_lookups x.script z refl refl)
      (still_charges x.script z (record { ops = refl; charges = refl; uncharges = refl; freed = λ g. refl; added = λ g. refl; charged = λ g. refl }))
      pool
      (still_tree x.script z refl (λ g asks above. absurd (none-some g asks)) (meets_none x.script z (λ g e. subst (λ y. IsReply (parents_of x.script) (λ p. []) by asked None y) e (row (λ p. []))) (λ g e. never_met (is_past_group r) g e)))
      cause

  known_at : (entry : ℕ) → entry ≡ length t.core.turns.known → take entry t.core.turns.known ≡ t.core.turns.known
  known_at entry e = take_all entry t.core.turns.known (omega (arith, e))

  live_is : (entry : ℕ) (b : _) → entry ≡ length t.core.turns.known → is_live_decl (shape_of x.core).ids decl t.core.turns.known ≡ b → is_live_decl x.script.ids decl (take entry t.core.turns.known) ≡ b
  live_is entry b e h = ap (is_live_decl x.script.ids decl) (known_at entry e) ∙ (ap (λ (n : ℕ). is_live_decl n decl t.core.turns.known) (sym tables.shared.ids) ∙ h)

  by_answer : (answer : RegisterAnswer) → RegisterGives x.core.setting s.core decl t.core.turns.known 1 answer t.core → HasDid x.script by asked (unfound (register_reply answer)) s t
  by_answer (register.AlreadyRegistered entry) h =
      let r : Reply = reply.AlreadyRegistered entry in let after = h.after in
      brought r h.gains.words [] h.gains.adds (λ family. tt) refl (still_pool x.script (registers r h.gains.words []) h.gains.adds.pool (record { turns = refl; made = refl }) h.after)
      (record { decl = decl; named = refl; known = omega (arith, after); live = live_is entry true h.after h.live })
  by_answer (register.NoId entry) h =
      let r : Reply = reply.NoId entry in let m = h.misses in let after = m.after in
      brought r m.gains.words [] m.gains.adds (λ family. tt) refl (still_pool x.script (registers r m.gains.words []) m.gains.adds.pool (record { turns = refl; made = refl }) m.after)
      (record {
        uncached = record { decl = decl; named = refl; known = omega (arith, after); none = live_is entry false m.after m.missing };
        ids = ap (lowest_idle x.script.ids) (known_at entry m.after) ∙ (ap (λ (n : ℕ). lowest_idle n t.core.turns.known) (sym tables.shared.ids) ∙ h.none);
      })
  by_answer register.Memory h = brought reply.Memory h.gains.words [] h.gains.adds (λ family. tt) refl (still_pool x.script (registers reply.Memory h.gains.words []) h.gains.adds.pool (record { turns = refl; made = refl }) tt) tt
  by_answer (register.Registered id entry) h =
      let r : Reply = reply.Registered id entry in
      let turn : Turn = record { number = entry; entry = Registered decl id h.from } in
      let z : Step = registers r h.gains.words (turn ∷ []) in
      let after = h.after in
      let long : length t.core.turns.known ≡ length h.before + 1 = ap (λ (l : List PoolEntry). length l) h.grown ∙ (length-append h.before (Registered decl id h.from ∷ []) ∙ omega arith) in
      brought r h.gains.words (turn ∷ []) h.gains.adds (λ family. tt) refl
      (record {
        turns = each_one (λ (y : Turn). IsTurnOf t.core.turns.known y.entry y.number r) turn refl;
        later = each_one (λ (y : Turn). length s.core.turns.known ≤ y.number) turn (omega (arith, after, begins_length s.core.turns.known h.before h.seen));
        seen = tt;
        rise = λ k d lt. absurd (omega (arith, lt));
        made = (omega (arith, after, long), tt);
      })
      (record { decl = decl; named = refl; from = h.from; made = (0, refl) })

-- a register
pub register_did : (x : Shared) (tables : AreTables x) (by : Serial) (decl : ℕ) (a : Answered) (s t : WorkerState) → worker.RegistersCache x decl a s t → HasDid x.script by (command.Register decl) a s t
register_did x tables by decl a s t h = subst (λ (b : Answered). HasDid x.script by (command.Register decl) b s t) (sym h.told) (by_answer x tables by decl s t h.rest h.answer h.registered)
