-- SPDX-License-Identifier: GPL-2.0-only
-- The report of a run is faithful: what its workers told stands in the order of their commands.
use Rattle.shr_lawful.proofs.Common.{◌≡◌, ℕ, ⊎_elim, List, [], ◌∷◌, sym, ◌∙◌, slice_get, Some, Registered, Unregistered, Answered, Reply, Script, Turn, Report, pool_made, pool_made_by, Step, IsAmong, steps_of, IsRun, ◌+◌, ◌<◌, ◌≤◌, inr, ◌++◌, length, map, ap, subst, arith, option_and_then, AllByRecursion, IsSomeAnd, same_Some, Done, UseStep, Serial, Command, Offline, Carry, group_named, IsAtOrAbove, each_append, each_weaker, Has, slice_get_within, Begins, begins_all, begins_more, AreRising, IsLaterThan, WorkerState, parents_of, decls_on, serial_of, all_carries, pool_seen, of_answer, IsFaithful, DidCarry, IsEntryOf, AreStepsChained, done_at, by_slices, some_at, EachAnswer, pool_reached, tree_reached, tree_made, AreNotAbove, IsOverOnPath, Grows}
use Rattle.shr_base.specs.declared.replies.Reply.TheVariants as reply
use Rattle.shr_lawful.specs.Causes as by
use Rattle.shr_lawful.proofs.FreshLaw.{of_is, step_cases, none_given, begins_length}
use Rattle.shr_charge.specs.Views as charge
use Rattle.shr_lawful.proofs.BitsToldLaw.{bits_told}
use Rattle.shr_lawful.proofs.Gathering.{first_grows, work_of, grows, stepped, has_step, each_among, later_along}
use Rattle.shr_lawful.proofs.Listed.{all_carries_are, all_among, PairsRec, pairs_rec, op_of, op_by, rise_along, among_has, across, Has_begins}
use Rattle.shr_lawful.proofs.JournalsLaw.{one_turn_maker}
use Rattle.shr_lawful.proofs.ClimbsLaw.{climbs}
use Rattle.shr_lawful.proofs.CutsLaw.{cuts_told}
use Rattle.shr_lawful.proofs.HandedLaw.{handed}
use Rattle.shr_lawful.proofs.DrainsLaw.{in_one_order}
use Rattle.shr_lawful.proofs.TakesLaw.{takes_in_order}
use Rattle.shr_lawful.proofs.PoolPast.{pool_past}
use Rattle.shr_lawful.proofs.TriesLaw.{tries}
use Rattle.shr_lawful.proofs.WalksRefused.{walks_refused}
use Rattle.shr_laws.proofs.FaithfulValues.{above_none}

module _ (s : Script) (r : Report) (workers : List (List Step)) (run : IsRun s r workers) where
  turn_made : (x : Step) (z : Reply) → by.IsCausedBy s x z → (n : ℕ) → pool_made z ≡ n ∷ [] → (t : Turn) × IsAmong t x.work.core.turns × (t.number ≡ n)
  turn_made x (reply.Registered id entry) h n e = (record { number = entry; entry = Registered h.decl id h.from }, h.made, (let same : entry ≡ n = cc in same))
  turn_made x (reply.Freed id entry from to objects) h n e = (record { number = entry; entry = Unregistered h.unregistered.decl id to }, h.unregistered.made, (let same : entry ≡ n = cc in same))
  turn_made x (reply.Half id entry from to objects half) h n e = (record { number = entry; entry = Unregistered h.unregistered.decl id to }, h.unregistered.made, (let same : entry ≡ n = cc in same))
  turn_made x y h n e = absurd (cc)

  pub made_turn : (worker k n : ℕ) → pool_made_by r worker k ≡ n ∷ [] → (x : Step) × (slice_get (steps_of workers worker) k ≡ Some x) × ((t : Turn) × IsAmong t x.work.core.turns × (t.number ≡ n))
  made_turn worker k n e = ⊎_elim
      (λ x. (x.0, x.1, turn_made x.0 x.0.answered.reply (run.steps.each worker k x.0 x.1).did.cause n (sym (of_is s r workers run worker k x.0 (λ (a : Answered). pool_made a.reply) x.1) ∙ e)))
      (λ none. absurd (let some = sym (none_given s r workers run worker k (λ (a : Answered). pool_made a.reply) none) ∙ e in cc)) (step_cases s r workers run worker k)

-- ---- lists of numbers

-- numbers up to a bound aren't above those from it on
around : (b : ℕ) (ns ms : List ℕ) → AllByRecursion (λ n. n ≤ b) ns → AllByRecursion (λ m. b ≤ m) ms → AreNotAbove ns ms
around b ns ms lo hi = each_weaker (λ n. n ≤ b) (λ n. AllByRecursion (λ m. n ≤ m) ms) (λ n le. each_weaker (λ m. b ≤ m) (λ m. n ≤ m) (λ m ge. omega (arith, le, ge)) ms hi) ns lo

-- ---- what a worker noted of charges along its steps
later_ops : (t : WorkerState) (mine : List Step) (k later : ℕ) (x y : Step) → AreStepsChained t mine → k < later → slice_get mine k ≡ Some x → slice_get mine later ≡ Some y → Begins x.after.uses.ops y.before.uses.ops
later_ops = later_along (λ s t. Begins s.uses.ops t.uses.ops) (λ s. begins_all s.uses.ops) (λ s t u. begins_more s.uses.ops t.uses.ops u.uses.ops) (λ x b. (x.work.ops, ap (λ u. u.ops) b.uses))

module _ (s : Script) (r : Report) (workers : List (List Step)) (run : IsRun s r workers) where
  -- ---- the journal of registrations
  made_once : (v i w j n : ℕ) → pool_made_by r v i ≡ n ∷ [] → pool_made_by r w j ≡ n ∷ [] → (v ≡ w) × (i ≡ j)
  made_once v i w j n e f = let x = made_turn s r workers run v i n e in let y = made_turn s r workers run w j n f in
      one_turn_maker s r workers run v i w j x.0 y.0 x.2.0 y.2.0 x.1 y.1 x.2.1 y.2.1 (x.2.2 ∙ sym y.2.2)

  -- an entry that a command made comes behind what its worker knew before
  turn_later : (worker k : ℕ) (x : Step) (t : Turn) → slice_get (steps_of workers worker) k ≡ Some x → IsAmong t x.work.core.turns → length x.before.core.turns.known ≤ t.number
  turn_later worker k x t at among = each_among (λ (u : Turn). length x.before.core.turns.known ≤ u.number) x.work.core.turns t (run.steps.each worker k x at).did.pool.later among

  made_later : (worker k n : ℕ) → pool_made_by r worker k ≡ n ∷ [] → length (decls_on s) ≤ n
  made_later worker k n e = let x = made_turn s r workers run worker k n e in
      omega (arith, turn_later worker k x.0 x.2.0 x.1 x.2.1, x.2.2, (run.steps.new worker).pool, begins_length (run.steps.first worker).core.turns.known x.0.before.core.turns.known (first_grows (run.steps.first worker) (steps_of workers worker) k x.0 (run.steps.chained worker) x.1).pool)

  -- each entry that a reply made, by its step
  made_from : (worker k : ℕ) (x : Step) (z : Reply) → slice_get (steps_of workers worker) k ≡ Some x → by.IsCausedBy s x z → AllByRecursion (λ n. length x.before.core.turns.known ≤ n) (pool_made z)
  made_from worker k x (reply.Registered id entry) at h = (turn_later worker k x (record { number = entry; entry = Registered h.decl id h.from }) at h.made, tt)
  made_from worker k x (reply.Freed id entry from to objects) at h = (turn_later worker k x (record { number = entry; entry = Unregistered h.unregistered.decl id to }) at h.unregistered.made, tt)
  made_from worker k x (reply.Half id entry from to objects half) at h = (turn_later worker k x (record { number = entry; entry = Unregistered h.unregistered.decl id to }) at h.unregistered.made, tt)
  made_from worker k x y at h = tt

  successors : (b : ℕ) (ns : List ℕ) → AllByRecursion (λ n. n < b) ns → AllByRecursion (λ n. n ≤ b) (map (λ n. n + 1) ns)
  successors b [] h = tt
  successors b (n ∷ ns) h = (omega (arith, h.0), successors b ns h.1)

  -- what an answer shows to be there its worker knows at its end
  reached_of : (x : Step) → (worker k : ℕ) → slice_get (steps_of workers worker) k ≡ Some x → AllByRecursion (λ n. n ≤ length x.after.core.turns.known) (pool_reached x.answered)
  reached_of x worker k at = let did = (run.steps.each worker k x at).did.pool in
      each_append (λ n. n ≤ length x.after.core.turns.known) (pool_seen x.answered) (map (λ n. n + 1) (pool_made x.answered.reply))
      (each_weaker (λ n. (length x.before.core.turns.known ≤ n) × (n ≤ length x.after.core.turns.known)) (λ n. n ≤ length x.after.core.turns.known) (λ n p. p.1) (pool_seen x.answered) did.seen)
      (successors (length x.after.core.turns.known) (pool_made x.answered.reply) did.made)

  -- none of these numbers, which a worker knows at the end of a step, is above those, which it made behind what it knew before a later one
  later_not_above : (reached made : Answered → List ℕ) (known : WorkerState → ℕ) → ((t u : WorkerState) → Grows t u → known t ≤ known u)
      → ((worker k : ℕ) (x : Step) → slice_get (steps_of workers worker) k ≡ Some x → AllByRecursion (λ n. n ≤ known x.after) (reached x.answered))
      → ((worker k : ℕ) (x : Step) → slice_get (steps_of workers worker) k ≡ Some x → AllByRecursion (λ n. known x.before ≤ n) (made x.answered))
      → (worker k later : ℕ) → k < later → AreNotAbove (of_answer r (serial_of worker k) reached) (of_answer r (serial_of worker later) made)
  later_not_above reached made known grown ended begun worker k later lt = ⊎_elim
      (λ x. ⊎_elim
      (λ y. let g = grown x.0.after y.0.before (grows s r workers run worker k later x.0 y.0 lt x.1 y.1) in
      subst (λ l. AreNotAbove l (of_answer r (serial_of worker later) made)) (sym (of_is s r workers run worker k x.0 reached x.1))
      (subst (AreNotAbove (reached x.0.answered)) (sym (of_is s r workers run worker later y.0 made y.1))
      (around (known x.0.after) (reached x.0.answered) (made y.0.answered) (ended worker k x.0 x.1)
      (each_weaker (λ m. known y.0.before ≤ m) (λ m. known x.0.after ≤ m) (λ m le. omega (arith, le, g)) (made y.0.answered) (begun worker later y.0 y.1)))))
      (λ none. subst (AreNotAbove (of_answer r (serial_of worker k) reached)) (sym (none_given s r workers run worker later made none)) (above_none _)) (step_cases s r workers run worker later))
      (λ none. subst (λ l. AreNotAbove l (of_answer r (serial_of worker later) made)) (sym (none_given s r workers run worker k reached none)) tt) (step_cases s r workers run worker k)

  pool_later : (worker k later : ℕ) → k < later → AreNotAbove (of_answer r (serial_of worker k) pool_reached) (pool_made_by r worker later)
  pool_later = later_not_above pool_reached (λ (a : Answered). pool_made a.reply) (λ t. length t.core.turns.known) (λ t u g. begins_length t.core.turns.known u.core.turns.known g.pool)
      (λ worker k x at. reached_of x worker k at) (λ worker k x at. made_from worker k x x.answered.reply at (run.steps.each worker k x at).did.cause)

  -- ---- the journal of the tree
  tree_known : (x : Step) (z : Reply) → by.IsCausedBy s x z → AllByRecursion (λ n. n ≤ length x.after.tree.known) (tree_reached z)
  tree_known x (reply.HasChildren child entry) h = (omega (arith, h.all), tt)
  tree_known x (reply.AlreadyDone entry) h = (let lt = slice_get_within x.after.tree.known entry (Done h.group) (done_at x.after.tree.known h.group entry h.done) in omega (arith, lt), tt)
  tree_known x (reply.OfflineDone entry moved deferred) h = (let lt = h.known in omega (arith, lt), tt)
  tree_known x y h = tt

  tree_from : (worker k : ℕ) (x : Step) (z : Reply) → slice_get (steps_of workers worker) k ≡ Some x → by.IsCausedBy s x z → AllByRecursion (λ n. length x.before.tree.known ≤ n) (tree_made z)
  tree_from worker k x (reply.OfflineDone entry moved deferred) at h =
      ((all_among (λ (m : charge.TreeMade). (length x.before.tree.known ≤ m.number) × IsEntryOf s x m.number m.entry) x.work.tree (record { number = entry; entry = Done h.group }) (run.steps.each worker k x at).did.tree.each h.made).0, tt)
  tree_from worker k x y at h = tt

  tree_later : (worker k later : ℕ) → k < later → AreNotAbove (of_answer r (serial_of worker k) (λ (a : Answered). tree_reached a.reply)) (of_answer r (serial_of worker later) (λ (a : Answered). tree_made a.reply))
  tree_later = later_not_above (λ (a : Answered). tree_reached a.reply) (λ (a : Answered). tree_made a.reply) (λ t. length t.tree.known) (λ t u g. begins_length t.tree.known u.tree.known g.tree)
      (λ worker k x at. tree_known x x.answered.reply (run.steps.each worker k x at).did.cause) (λ worker k x at. tree_from worker k x x.answered.reply at (run.steps.each worker k x at).did.cause)

  -- ---- operations
  uses_rise : (m n : ℕ) (o p : UseStep) → slice_get r.uses.items m ≡ Some o → slice_get r.uses.items n ≡ Some p → o.group ≡ p.group → o.by.worker ≡ p.by.worker → o.by.command < p.by.command → o.operation < p.operation
  uses_rise m n o p at_o at_p group worker before =
      let x = op_of s r workers run o (among_has r.uses.items o (m, some_at r.uses.items m o at_o)) in
      let y = op_of s r workers run p (among_has r.uses.items p (n, some_at r.uses.items n p at_p)) in
      let by_x : o.by ≡ serial_of x.worker x.k = op_by s r workers run x.worker x.k x.step o x.at x.has ∙ (run.steps.each x.worker x.k x.step x.at).by in
      let by_y : p.by ≡ serial_of y.worker y.k = op_by s r workers run y.worker y.k y.step p y.at y.has ∙ (run.steps.each y.worker y.k y.step y.at).by in
      let same : x.worker ≡ y.worker = ap (λ (z : Serial). z.worker) (sym by_x) ∙ (worker ∙ ap (λ (z : Serial). z.worker) by_y) in
      let k_x : o.by.command ≡ x.k = ap (λ (z : Serial). z.command) by_x in
      let k_y : p.by.command ≡ y.k = ap (λ (z : Serial). z.command) by_y in
      let at_x : slice_get (steps_of workers y.worker) x.k ≡ Some x.step = subst (λ v. slice_get (steps_of workers v) x.k ≡ Some x.step) same x.at in
      let lt : x.k < y.k = omega (arith, before, k_x, k_y) in
      let none : AreRising (run.steps.first y.worker).uses.ops = subst AreRising (sym (run.steps.new y.worker).ops) (λ i j d less within. absurd (omega (arith, within))) in
      let all = rise_along (run.steps.first y.worker) (steps_of workers y.worker) y.k y.step (run.steps.chained y.worker) none y.at in
      let whole : PairsRec (λ a b. IsLaterThan b a) (y.step.before.uses.ops ++ y.step.work.ops) = subst (PairsRec (λ a b. IsLaterThan b a)) (ap (λ u. u.ops) (work_of s r workers run y.worker y.k y.step y.at).uses) (pairs_rec (λ a b. IsLaterThan b a) y.step.after.uses.ops all) in
      let own : Has x.step.after.uses.ops o = subst (λ l. Has l o) (sym (ap (λ u. u.ops) (work_of s r workers run y.worker x.k x.step at_x).uses)) (behind x.step.before.uses.ops x.step.work.ops (among_has x.step.work.ops o x.has)) in
      let had : Has y.step.before.uses.ops o = Has_begins x.step.after.uses.ops y.step.before.uses.ops o (later_ops (run.steps.first y.worker) (steps_of workers y.worker) x.k y.k x.step y.step (run.steps.chained y.worker) lt at_x y.at) own in
      across (λ a b. IsLaterThan b a) y.step.before.uses.ops y.step.work.ops o p whole had (among_has y.step.work.ops p y.has) group where
        behind : (us vs : List UseStep) → Has vs o → Has (us ++ vs) o
        behind [] vs h = h
        behind (u ∷ us) vs h = inr (behind us vs h)

  -- ---- single answers
  over_on_path : (x : Step) (c : Command) (z : Reply) → x.command ≡ Some c → by.IsCausedBy s x z → IsOverOnPath s c z
  over_on_path x c (reply.Over g operation usage) is h = subst (λ o. IsSomeAnd o (λ own. IsAtOrAbove (parents_of s) g own)) (sym h.named ∙ ap (option_and_then group_named) is) h.above
  over_on_path x c y is h = tt

  over : EachAnswer s r (λ by c a. IsOverOnPath s c a.reply)
  over serial c a command answer = let t = stepped s r workers run serial c a command answer in
      subst (λ (y : Answered). IsOverOnPath s c y.reply) t.answered (over_on_path t.step c t.step.answered.reply t.command t.did.cause)

  below_root : EachAnswer s r (λ by c a. (group child entry : ℕ) → c ≡ Offline group → a.reply ≡ reply.HasChildren child entry → 0 < group)
  below_root serial c a command answer group child entry is told =
      let t = stepped s r workers run serial c a command answer in
      let h : by.IsInTheWayBy s t.step child entry = subst (by.IsCausedBy s t.step) (ap (λ (y : Answered). y.reply) t.answered ∙ told) t.did.cause in
      let same : Some h.group ≡ Some group = sym h.named ∙ (ap (option_and_then group_named) t.command ∙ ap group_named is) in
      subst (λ g. 0 < g) (same_Some h.group group same) h.below

  carried : AllByRecursion (λ (c : Carry). 0 < c.amount) (all_carries r)
  carried = by_slices (λ (c : Carry). 0 < c.amount) (all_carries r) (λ j c e.
      let of = has_step (λ (x : Step). x.work.carries) workers c (subst (λ l. IsAmong c l) (all_carries_are s r workers run) (j, some_at (all_carries r) j c e)) in
      (all_among (DidCarry s of.step) of.step.work.carries c (run.steps.each of.worker of.k of.step of.at).did.moves.carries of.has).some)

  pub faithful_of_run : IsFaithful s r
  faithful_of_run = record {
    reached = run.pool.last;
    made_once = made_once;
    made_later = made_later;
    pool_later = pool_later;
    pool_past = pool_past s r workers run;
    tree_later = tree_later;
    walks_refused = walks_refused s r workers run;
    uses_rise = uses_rise;
    over = over;
    below_root = below_root;
    carried = carried;
    order = in_one_order s r workers run;
    takes = takes_in_order s r workers run;
    cuts = cuts_told s r workers run;
    handed = handed s r workers run;
    climbs = climbs s r workers run;
    tries = tries s r workers run;
    bits = bits_told s r workers run;
  }
