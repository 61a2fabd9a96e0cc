-- SPDX-License-Identifier: GPL-2.0-only
-- What an answer made of the journal of registrations its worker knows at the end of the command.
use Rattle.shr_lawful.proofs.Common.{◌≡◌, ℕ, ◌+◌, ◌<◌, ◌≤◌, ⊎_elim, List, length, take, sym, refl, ap, subst, ◌∙◌, arith, slice_get, Option, Some, option_map, AllByRecursion, IsSomeAnd, PoolEntry, Registered, Unregistered, Idle, Answered, Reply, Script, phase_of, each_weaker, Turn, Report, IsMadeBy, pool_seen, pool_made, of_answer, serial_of, reply_at, DidPool, IsTurnOf, Step, IsAmong, steps_of, IsRun}
use Rattle.shr_base.specs.declared.replies.Reply.TheVariants as reply
use Rattle.shr_lawful.specs.Causes as by
use Rattle.shr_lawful.proofs.FreshLaw.{of_is, step_cases, none_given, begins_length}
use Rattle.shr_lawful.proofs.Gathering.{each_among, grows, reply_is}
use Rattle.shr_lawful.proofs.JournalsLaw.{turn_stands, pool_known}
use Rattle.shr_lawful.proofs.PoolCauses.{same_phase}

module _ (s : Script) (r : Report) (workers : List (List Step)) (run : IsRun s r workers) where
  -- the Idle of a Freed is the one that the step made
  idle_by : (worker k : ℕ) (x : Step) → slice_get (steps_of workers worker) k ≡ Some x → (n id i entry from to objects : ℕ) → x.answered.reply ≡ reply.Freed i entry from to objects → slice_get r.pool.items n ≡ Some (Idle id)
      → IsMadeBy r (Idle id) n (reply.Freed i entry from to objects) → (t : Turn) × IsAmong t x.work.core.turns × (t.number ≡ n) × (n < length x.after.core.turns.known)
  idle_by worker k x at n id i entry from to objects is stands made =
      let did : DidPool s x = (run.steps.each worker k x at).did.pool in
      let cause : by.IsFreedBy x i entry from to objects = subst (by.IsCausedBy s x) is (run.steps.each worker k x at).did.cause in
      let t : Turn = record { number = cause.number; entry = Idle i } in
      let of : IsTurnOf x.after.core.turns.known (Idle i) cause.number (reply.Freed i entry from to objects) = subst (IsTurnOf x.after.core.turns.known (Idle i) cause.number) is (each_among (λ (y : Turn). IsTurnOf x.after.core.turns.known y.entry y.number x.answered.reply) x.work.core.turns t did.turns cause.idle) in
      let there = turn_stands s r workers run worker k x t at cause.idle in
      let past = of.2 in let behind = of.1 in
      let phase : phase_of i (take cause.number r.pool.items) ≡ phase_of i (take entry r.pool.items) + 1 =
      ap (phase_of i) (sym (pool_known s r workers run worker k x at cause.number (omega (arith, past)))) ∙ (of.3 ∙ ap (λ l. phase_of i l + 1) (pool_known s r workers run worker k x at entry (omega (arith, past, behind)))) in
      let own : phase_of i (take n r.pool.items) ≡ phase_of i (take entry r.pool.items) + 1 = subst (λ (j : ℕ). phase_of j (take n r.pool.items) ≡ phase_of j (take entry r.pool.items) + 1) (sym made.0) made.2 in
      let same : n ≡ cause.number = same_phase s r workers run i n cause.number (Idle id) (Idle i) stands there (sym made.0) (λ j. i) (own ∙ sym phase) in
      (t, cause.idle, sym same, omega (arith, same, past))

  -- and so each entry that a reply made
  pub turn_by : (worker k : ℕ) (x : Step) → slice_get (steps_of workers worker) k ≡ Some x → (n : ℕ) (e : PoolEntry) (z : Reply) → x.answered.reply ≡ z → slice_get r.pool.items n ≡ Some e → IsMadeBy r e n z
      → (t : Turn) × IsAmong t x.work.core.turns × (t.number ≡ n)
  turn_by worker k x at n (Registered decl id since) (reply.Registered i entry) is stands made =
      let h : by.IsRegisteredBy x i entry = subst (by.IsCausedBy s x) is (run.steps.each worker k x at).did.cause in (record { number = entry; entry = Registered h.decl i h.from }, h.made, sym made)
  turn_by worker k x at n (Unregistered decl id until) (reply.Freed i entry from to objects) is stands made =
      let h : by.IsFreedBy x i entry from to objects = subst (by.IsCausedBy s x) is (run.steps.each worker k x at).did.cause in (record { number = entry; entry = Unregistered h.unregistered.decl i to }, h.unregistered.made, sym made)
  turn_by worker k x at n (Unregistered decl id until) (reply.Half i entry from to objects half) is stands made =
      let h : by.IsHalfBy s x i entry from to objects half = subst (by.IsCausedBy s x) is (run.steps.each worker k x at).did.cause in (record { number = entry; entry = Unregistered h.unregistered.decl i to }, h.unregistered.made, sym made)
  turn_by worker k x at n (Idle id) (reply.Freed i entry from to objects) is stands made = let t = idle_by worker k x at n id i entry from to objects is stands made in (t.0, t.1, t.2)
  turn_by worker k x at n e z is stands made = absurd made

  -- by an answer that is the step's
  known_past : (worker k : ℕ) (x : Step) → slice_get (steps_of workers worker) k ≡ Some x → (n : ℕ) (e : PoolEntry) (z : Reply) → x.answered.reply ≡ z → slice_get r.pool.items n ≡ Some e → IsMadeBy r e n z → n < length x.after.core.turns.known
  known_past worker k x at n (Registered decl id since) (reply.Registered i entry) is stands made = let m = subst (λ (y : Reply). AllByRecursion (λ j. j < length x.after.core.turns.known) (pool_made y)) is (run.steps.each worker k x at).did.pool.made in let lt = m.0 in omega (arith, made, lt)
  known_past worker k x at n (Registered decl id since) z is stands made = absurd made
  known_past worker k x at n (Unregistered decl id until) (reply.Freed i entry from to objects) is stands made = let m = subst (λ (y : Reply). AllByRecursion (λ j. j < length x.after.core.turns.known) (pool_made y)) is (run.steps.each worker k x at).did.pool.made in let lt = m.0 in omega (arith, made, lt)
  known_past worker k x at n (Unregistered decl id until) (reply.Half i entry from to objects half) is stands made = let m = subst (λ (y : Reply). AllByRecursion (λ j. j < length x.after.core.turns.known) (pool_made y)) is (run.steps.each worker k x at).did.pool.made in let lt = m.0 in omega (arith, made, lt)
  known_past worker k x at n (Unregistered decl id until) z is stands made = absurd made
  known_past worker k x at n (Idle id) (reply.Freed i entry from to objects) is stands made = (idle_by worker k x at n id i entry from to objects is stands made).3
  known_past worker k x at n (Idle id) z is stands made = absurd made

  -- and what it knows later is no less
  pub pool_past : (worker k later n : ℕ) (e : PoolEntry) → k < later → slice_get r.pool.items n ≡ Some e → IsSomeAnd (reply_at r (serial_of worker k)) (IsMadeBy r e n)
      → AllByRecursion (λ m. n < m) (of_answer r (serial_of worker later) pool_seen)
  pool_past worker k later n e lt stands made = ⊎_elim
      (λ x. ⊎_elim
      (λ y. let past = known_past worker k x.0 x.1 n e x.0.answered.reply refl stands (subst (λ (o : Option Reply). IsSomeAnd o (IsMadeBy r e n)) (reply_is s r workers run worker k x.0 x.1) made) in
      let g = begins_length x.0.after.core.turns.known y.0.before.core.turns.known (grows s r workers run worker k later x.0 y.0 lt x.1 y.1).pool in
      subst (AllByRecursion (λ m. n < m)) (sym (of_is s r workers run worker later y.0 pool_seen y.1))
      (each_weaker (λ m. (length y.0.before.core.turns.known ≤ m) × (m ≤ length y.0.after.core.turns.known)) (λ m. n < m) (λ m p. let low = p.0 in omega (arith, low, past, g)) (pool_seen y.0.answered) (run.steps.each worker later y.0 y.1).did.pool.seen))
      (λ none. subst (AllByRecursion (λ m. n < m)) (sym (none_given s r workers run worker later pool_seen none)) tt) (step_cases s r workers run worker later))
      (λ none. absurd (subst (λ (o : Option Answered). IsSomeAnd (option_map (λ (a : Answered). a.reply) o) (IsMadeBy r e n)) none made)) (step_cases s r workers run worker k)
