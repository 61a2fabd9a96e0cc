-- SPDX-License-Identifier: GPL-2.0-only
-- The steps of a worker: those of its commands, and behind them that of the sweep of a script that has one.
use Rattle.shr_assemble.proofs.Common.{◌≡◌, ℕ, zero, suc, ◌+◌, ◌<◌, ◌≤◌, ◌⊎◌, inl, inr, ⊎_elim, List, [], ◌∷◌, ◌++◌, length, length-append, sym, refl, ap, subst, ◌∙◌, arith, slice_get, Option, Some, None, flat_map, AllByRecursion, append-nil, same_Some, none-some, slice_get_within, slice_get_past, Serial, Answered, Command, Script, Sweep, WorkerScript, Isolation, SweepItem, sweeps_in, sweeps_of, IsShared, WorkerState, Shared, CrewState, View, WorkerLog, Did, HelpsWith, HasWorked, new_worker, isolated_in, isolated_before, DidIsolations, Step, AreStepsChained, worker_state_after, BringsWork, IsOfPops, slice_cases, slice_left, worker_commands, command_serial, range_with_len, total, End, SweepJob, of_job, only_job, ArePoppedOnce, all_popped, take-append-le}
use Rattle.shr_charge.proofs.Listing.{get_last}
use Rattle.shr_lawful.proofs.Listed.{weight_in, number_in}
use Rattle.shr_assemble.proofs.Rows.{IsFit, fit_new, IsRow, DidEach, SweptPart, IsThereItem, swept_step, row_of}
use Rattle.shr_pool.specs.declared.items.SweepItem.TheVariants.{Walk}
use Rattle.shr_pool.proofs.Once.{agrees}

-- a worker's steps: one for each of these commands, as many behind them as it answered sweeps, by these answers and serials
pub record IsWorkerRow (s : Script) (by : ℕ → Serial) (cs : List Command) (sweeps : ℕ) (popped : List SweepItem) (said : List Answered) (first last : CrewState) (mine : List Step) : Type 0 where
  pub commands : length mine ≡ length cs + sweeps
  pub answers : length said ≡ length mine
  pub chained : AreStepsChained first.seats mine
  pub ends : worker_state_after first.seats mine ≡ last.seats
  pub each : (k : ℕ) (x : Step) → slice_get mine k ≡ Some x → (x.by ≡ by k) × (slice_get cs k ≡ x.command) × (slice_get said k ≡ Some x.answered) × Did s x
  pub pops : (k : ℕ) (x : Step) → slice_get mine k ≡ Some x → x.command ≡ None → IsOfPops popped x.work.walks x.answered.reply
  pub recorded : last.isolations ≡ first.isolations ++ flat_map isolated_in mine
  pub by_law : (k : ℕ) (x : Step) → slice_get mine k ≡ Some x → DidIsolations s x (length first.isolations + isolated_before mine k)
  pub fit : (k : ℕ) (x : Step) → slice_get mine k ≡ Some x → IsFit x.before

-- a step of a command isn't that of a sweep
no_sweep : (cs : List Command) (k : ℕ) (o : Option Command) → k < length cs → slice_get cs k ≡ o → o ≡ None → ⊥
no_sweep [] k o lt e none = absurd (omega (arith, lt))
no_sweep (c ∷ cs) zero o lt e none = none-some c (sym none ∙ sym e)
no_sweep (c ∷ cs) (suc k) o lt e none = no_sweep cs k o (omega (arith, lt)) e none

module _ (s : Script) (by : ℕ → Serial) (cs : List Command) (popped : List SweepItem) (own : List Answered) (first done : CrewState) (mine : List Step) (row : IsRow s by cs own first done mine) where
  own_pops : (k : ℕ) (x : Step) → slice_get mine k ≡ Some x → x.command ≡ None → IsOfPops popped x.work.walks x.answered.reply
  own_pops k x at none = let many = row.commands in absurd (no_sweep cs k x.command (omega (arith, slice_get_within mine k x at, many)) (row.each k x at).1 none)

  -- without a sweep there are no other steps
  alone : IsWorkerRow s by cs 0 popped own first done mine
  alone = let own = row.commands in let many : length mine ≡ length cs + 0 = omega (arith, own) in assumption (many, own_pops, row)

chain_more : (t : WorkerState) (mine : List Step) (x : Step) → AreStepsChained t mine → x.before ≡ worker_state_after t mine → BringsWork x.before x.after x.work → AreStepsChained t (mine ++ x ∷ [])
chain_more t [] x c e b = (e, b, tt)
chain_more t (y ∷ mine) x c e b = (c.0, c.1, chain_more y.after mine x c.2 e b)

state_more : (t : WorkerState) (mine : List Step) (x : Step) → worker_state_after t (mine ++ x ∷ []) ≡ x.after
state_more t [] x = refl
state_more t (y ∷ mine) x = state_more y.after mine x

slice_one : {A : Type 0} (x y : A) (k : ℕ) → slice_get (x ∷ []) k ≡ Some y → (k ≡ 0) × (x ≡ y)
slice_one x y zero e = (refl, same_Some x y e)
slice_one x y (suc k) e = absurd (none-some y e)

-- a step that made no isolation adds none
no_more : (mine : List Step) (x : Step) → isolated_in x ≡ [] → flat_map isolated_in (mine ++ x ∷ []) ≡ flat_map isolated_in mine
no_more [] x none = ap (λ (l : List Isolation). l ++ []) none
no_more (y ∷ mine) x none = ap (λ (l : List Isolation). isolated_in y ++ l) (no_more mine x none)

module _ (s : Script) (by : ℕ → Serial) (cs : List Command) (popped : List SweepItem) (own : List Answered) (a : Answered) (first done last : CrewState) (mine : List Step) (row : IsRow s by cs own first done mine)
    (part : SweptPart s (by (length cs)) a popped done.seats last.seats) (same : last.isolations ≡ done.isolations) where
  abbrev step : Step
  step = swept_step (by (length cs)) a done.seats last.seats part.work

  -- the step of the sweep stands behind those of the commands
  at_end : (k : ℕ) (x : Step) → slice_get (mine ++ step ∷ []) k ≡ Some x → (slice_get mine k ≡ Some x) ⊎ ((k ≡ length cs) × (step ≡ x))
  at_end k x at = ⊎_elim (λ here. inl here)
      (λ there. let one = slice_one step x there.0 there.2 in let many = row.commands in let zero_is = one.0 in let number = there.1 in inr (omega (arith, number, zero_is, many), one.1))
      (slice_cases mine (step ∷ []) k x at)

  with_sweep : IsWorkerRow s by cs 1 popped (own ++ a ∷ []) first last (mine ++ step ∷ [])
  with_sweep = record {
    commands = let many = row.commands in let more = length-append mine (step ∷ []) in omega (arith, many, more);
    answers = let same = row.answers in let more = length-append mine (step ∷ []) in let said = length-append own (a ∷ []) in omega (arith, same, more, said);
    chained = chain_more first.seats mine step row.chained (sym row.ends) part.does;
    ends = state_more first.seats mine step;
    each = λ k x at. ⊎_elim
        (λ here. let e = row.each k x here in (e.0, e.1, slice_left own (a ∷ []) k x.answered e.2, e.3))
        (λ end. subst (λ (y : Step). (y.by ≡ by k) × (slice_get cs k ≡ y.command) × (slice_get (own ++ a ∷ []) k ≡ Some y.answered) × Did s y) end.1
        (ap by (sym end.0), slice_get_past cs k (let number = end.0 in omega (arith, number)), get_last own a k (let same = row.answers in let many = row.commands in let number = end.0 in omega (arith, same, many, number)), part.did))
        (at_end k x at);
    pops = λ k x at none. ⊎_elim
        (λ here. own_pops s by cs popped own first done mine row k x here none)
        (λ end. subst (λ (y : Step). IsOfPops popped y.work.walks y.answered.reply) end.1 part.pops)
        (at_end k x at);
    recorded = same ∙ (row.recorded ∙ ap (λ (l : List Isolation). first.isolations ++ l) (sym (no_more mine step refl)));
    by_law = λ k x at. ⊎_elim
        (λ here. subst (λ (l : List Step). DidIsolations s x (length first.isolations + length (flat_map isolated_in l))) (sym (take-append-le k mine (step ∷ []) (let lt = slice_get_within mine k x here in omega (arith, lt)))) (row.by_law k x here))
        (λ end. subst (λ (y : Step). DidIsolations s y (length first.isolations + isolated_before (mine ++ step ∷ []) k)) end.1
        (λ i told. absurd (none-some i (ap (λ (l : List Isolation). slice_get l 0) told))))
        (at_end k x at);
    fit = λ k x at. ⊎_elim (λ here. row.fit k x here) (λ end. subst (λ (y : Step). IsFit y.before) end.1 row.done) (at_end k x at);
  }

-- steps of a worker that answered so
abbrev IsWanted : Shared → View → ℕ → List SweepItem → CrewState → ℕ → List Answered → Type 0
IsWanted x opened number popped last sweeps said = (mine : List Step) × IsWorkerRow x.script (command_serial number) (worker_commands x.script number) sweeps popped said (new_worker opened number) last mine

-- the steps of a worker that answered all its commands, and the sweep of its script
pub worker_row : (x : Shared) → IsShared x → DidEach x → (opened : View) (number : ℕ) (log : WorkerLog) (popped : List SweepItem) (last : CrewState) → number < length x.script.workers.items
    → ((z : Sweep) → x.script.sweep ≡ Some z → AllByRecursion (IsThereItem x.script) popped) → HasWorked x opened number log popped last
    → (mine : List Step) × IsWorkerRow x.script (command_serial number) (worker_commands x.script number) (sweeps_of x.script number) popped log.answers.items (new_worker opened number) last mine
worker_row x shared did opened number log popped last within there w = by_sweep x.script.sweep refl w.helped where
  row : (mine : List Step) × IsRow x.script (command_serial number) (worker_commands x.script number) w.own (new_worker opened number) w.done mine
  row = row_of x shared did number w.own (new_worker opened number) w.done (fit_new opened number) w.all w.work

  one_sweep : (z : Sweep) (o : Option WorkerScript) → slice_get x.script.workers.items number ≡ o → sweeps_in (Some z) o ≡ 1
  one_sweep z None e = absurd (omega (arith, within, past x.script.workers.items number e)) where
    past : (ws : List WorkerScript) (n : ℕ) → slice_get ws n ≡ None → length ws ≤ n
    past [] n h = omega arith
    past (v ∷ ws) zero h = absurd (none-some v (sym h))
    past (v ∷ ws) (suc n) h = omega (arith, past ws n h)
  one_sweep z (Some v) e = refl

  by_sweep : (o : Option Sweep) → x.script.sweep ≡ o → HelpsWith x o (command_serial number (length (worker_commands x.script number))) w.told popped w.done last → IsWanted x opened number popped last (sweeps_of x.script number) log.answers.items
  by_sweep None e h =
      let said : log.answers.items ≡ w.own = w.answers ∙ (ap (λ l. w.own ++ l) h.0 ∙ append-nil w.own) in
      let none : sweeps_of x.script number ≡ 0 = ap (λ (z : Option Sweep). sweeps_in z (slice_get x.script.workers.items number)) e in
      subst (λ n. IsWanted x opened number popped last n log.answers.items) (sym none) (subst (IsWanted x opened number popped last 0) (sym said) (
        row.0,
        subst (λ (t : CrewState). IsWorkerRow x.script (command_serial number) (worker_commands x.script number) 0 popped w.own (new_worker opened number) t row.0) (sym h.1)
            (alone x.script (command_serial number) (worker_commands x.script number) popped w.own (new_worker opened number) w.done row.0 row.1),
      ))
  by_sweep (Some z) e h =
      let part = did.sweep z (command_serial number (length (worker_commands x.script number))) w.told popped w.done last e (there z e) h in
      let said : log.answers.items ≡ w.own ++ part.0 ∷ [] = w.answers ∙ ap (λ l. w.own ++ l) part.1 in
      let one : sweeps_of x.script number ≡ 1 = ap (λ (o : Option Sweep). sweeps_in o (slice_get x.script.workers.items number)) e ∙ one_sweep z (slice_get x.script.workers.items number) refl in
      subst (λ n. IsWanted x opened number popped last n log.answers.items) (sym one) (subst (IsWanted x opened number popped last 1) (sym said) (
        row.0 ++ swept_step (command_serial number (length (worker_commands x.script number))) part.0 w.done.seats last.seats part.2.work ∷ [],
        with_sweep x.script (command_serial number) (worker_commands x.script number) popped w.own part.0 (new_worker opened number) w.done last row.0 row.1 part.2 h.isolations,
      ))

-- what was popped once, job by job, is there
module _ (s : Script) (all : List SweepItem) (once : ArePoppedOnce s all) where
  there_items : (items : List SweepItem) → ((j : SweepJob) → total (of_job (only_job j)) items ≤ total (of_job (only_job j)) all) → AllByRecursion (IsThereItem s) items
  there_items [] less = tt
  there_items (Walk j ∷ items) less =
      let own : only_job j j ≡ 1 = agrees j j refl refl in
      let some = less j in
      let same = ap (total (of_job (only_job j))) once.same in
      let known = once.once.known j (omega (arith, own, some, same)) in
      ((known.node, known.group), there_items items (λ k. let le = less k in omega (arith, le)))
  there_items (End ∷ items) less = (tt, there_items items (λ k. let le = less k in omega (arith, le)))

pub items_there : (s : Script) (popped : ℕ → List SweepItem) (workers i : ℕ) → i < workers → ArePoppedOnce s (all_popped popped workers) → AllByRecursion (IsThereItem s) (popped i)
items_there s popped workers i lt once = there_items s (all_popped popped workers) once (popped i) (λ j. weight_in (of_job (only_job j)) popped (range_with_len 0 workers) i i (number_in workers i lt))
