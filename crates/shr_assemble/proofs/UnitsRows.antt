-- SPDX-License-Identifier: GPL-2.0-only
-- What each worker did at the pools of units, command by command, from the states between its commands.
use Rattle.shr_assemble.proofs.Common.{◌≡◌, ℕ, zero, suc, List, [], ◌∷◌, length, sym, refl, ap, subst, ◌∙◌, arith, slice_get, Some, Option, None, same_Some, none-some, Serial, Answered, Command, Script, View, PlainState, Shared, CrewState, IsWorkOf, PlainGives, UnitsStep, WorkerLog, new_worker, HelpsWith, HasWorked, Sweep, SweepItem, slice_left, worker_commands, command_serial, AreChained, units_state_after}
use Rattle.shr_assemble.proofs.Crews.{choose}

-- a command with its answer, and what it did at the pools
pub record IsDeed (s : Script) (by : ℕ → Serial) (cs : List Command) (said : List Answered) (k : ℕ) (x : UnitsStep) : Type 0 where
  pub by_is : x.by ≡ by k
  pub command : slice_get cs k ≡ Some x.command
  pub answered : Answered
  pub answer : slice_get said k ≡ Some answered
  pub reply : x.reply ≡ answered.reply
  pub gives : PlainGives s x.by x.command answered x.before x.after

-- a worker's steps at the pools: one for each of these commands and answers, from the first state to the last
pub record IsUnitsRow (s : Script) (by : ℕ → Serial) (cs : List Command) (said : List Answered) (first last : PlainState) (mine : List UnitsStep) : Type 0 where
  pub commands : length cs ≡ length mine
  pub chained : AreChained first mine
  pub ends : units_state_after first mine ≡ last
  pub each : (k : ℕ) (x : UnitsStep) → slice_get mine k ≡ Some x → IsDeed s by cs said k x

row : (s : Script) (by : ℕ → Serial) (cs : List Command) (said : List Answered) (t : CrewState) (us : List CrewState) (last : CrewState) → length said ≡ length cs → length us ≡ length said
    → ((k : ℕ) (c : Command) (a : Answered) (v w : CrewState) → slice_get cs k ≡ Some c → slice_get said k ≡ Some a → slice_get (t ∷ us) k ≡ Some v → slice_get (t ∷ us) (suc k) ≡ Some w → PlainGives s (by k) c a v.plain w.plain)
    → slice_get (t ∷ us) (length said) ≡ Some last → (mine : List UnitsStep) × IsUnitsRow s by cs said t.plain last.plain mine
row s by [] [] t us last same more each end = ([], record { commands = refl; chained = tt; ends = ap (λ (c : CrewState). c.plain) (same_Some t last end); each = λ k x e. absurd (none-some x e) })
row s by [] (a ∷ said) t us last same more each end = absurd (omega (arith, same))
row s by (c ∷ cs) [] t us last same more each end = absurd (omega (arith, same))
row s by (c ∷ cs) (a ∷ said) t [] last same more each end = absurd (omega (arith, more))
row s by (c ∷ cs) (a ∷ said) t (u ∷ us) last same more each end =
    let g : PlainGives s (by 0) c a t.plain u.plain = each 0 c a t u refl refl refl refl in
    let x : UnitsStep = record { by = by 0; command = c; reply = a.reply; before = t.plain; after = u.plain } in
    let rest = row s (λ k. by (suc k)) cs said u us last (omega (arith, same)) (omega (arith, more)) (λ k d b v w. each (suc k) d b v w) end in (
      x ∷ rest.0,
      record {
        commands = (let m = rest.1.commands in omega (arith, m));
        chained = (refl, rest.1.chained);
        ends = rest.1.ends;
        each = at x rest.0 (record { by_is = refl; command = refl; answered = a; answer = refl; reply = refl; gives = g }) rest.1.each;
      },
    ) where
      at : (x : UnitsStep) (xs : List UnitsStep) → IsDeed s by (c ∷ cs) (a ∷ said) 0 x → ((k : ℕ) (y : UnitsStep) → slice_get xs k ≡ Some y → IsDeed s (λ n. by (suc n)) cs said k y)
          → (k : ℕ) (y : UnitsStep) → slice_get (x ∷ xs) k ≡ Some y → IsDeed s by (c ∷ cs) (a ∷ said) k y
      at x xs own others zero y e = subst (IsDeed s by (c ∷ cs) (a ∷ said) 0) (same_Some x y e) own
      at x xs own others (suc k) y e = let d = others k y e in record { by_is = d.by_is; command = d.command; answered = d.answered; answer = d.answer; reply = d.reply; gives = d.gives }

row_from : (s : Script) (by : ℕ → Serial) (cs : List Command) (said : List Answered) (first last : CrewState) (ts : List CrewState) → length said ≡ length cs
    → slice_get ts 0 ≡ Some first → slice_get ts (length said) ≡ Some last → length ts ≡ suc (length said)
    → ((k : ℕ) (c : Command) (a : Answered) (v w : CrewState) → slice_get cs k ≡ Some c → slice_get said k ≡ Some a → slice_get ts k ≡ Some v → slice_get ts (suc k) ≡ Some w → PlainGives s (by k) c a v.plain w.plain)
    → (mine : List UnitsStep) × IsUnitsRow s by cs said first.plain last.plain mine
row_from s by cs said first last [] same start end more each = absurd (none-some first start)
row_from s by cs said first last (t ∷ us) same start end more each =
    subst (λ (f : CrewState). (mine : List UnitsStep) × IsUnitsRow s by cs said f.plain last.plain mine) (same_Some t first start) (row s by cs said t us last same (omega (arith, more)) each end)

-- the steps of a worker that answered all its commands
units_row : (x : Shared) (number : ℕ) (said : List Answered) (first last : CrewState) → length said ≡ length (worker_commands x.script number) → IsWorkOf x number said first last
    → (mine : List UnitsStep) × IsUnitsRow x.script (command_serial number) (worker_commands x.script number) said first.plain last.plain mine
units_row x number said first last all work = row_from x.script (command_serial number) (worker_commands x.script number) said first last work.states all work.starts work.ends work.one_more
    (λ k c a v w at_c at_a at_v at_w. (work.each k c a v w at_c at_a at_v at_w).plain)

-- the steps of all workers
pub record IsUnitsCrew (x : Shared) (opened : View) (logs : List WorkerLog) (lasts : List CrewState) (workers : List (List UnitsStep)) : Type 0 where
  pub workers_are : length workers ≡ length logs
  pub each : (i : ℕ) (log : WorkerLog) (last : CrewState) (mine : List UnitsStep) → slice_get logs i ≡ Some log → slice_get lasts i ≡ Some last → slice_get workers i ≡ Some mine
      → IsUnitsRow x.script (command_serial i) (worker_commands x.script i) log.answers.items (new_worker opened i).plain last.plain mine

-- the sweep of its script does nothing at the pools
still_plain : (x : Shared) (o : Option Sweep) (by : Serial) (told : List Answered) (popped : List SweepItem) (s t : CrewState) → HelpsWith x o by told popped s t → s.plain ≡ t.plain
still_plain x None by told popped s t h = ap (λ (c : CrewState). c.plain) (sym h.1)
still_plain x (Some z) by told popped s t h = sym h.plain

-- so its steps there are those of its commands
whole_row : (x : Shared) (opened : View) (number : ℕ) (log : WorkerLog) (popped : List SweepItem) (last : CrewState) → HasWorked x opened number log popped last
    → (mine : List UnitsStep) × IsUnitsRow x.script (command_serial number) (worker_commands x.script number) log.answers.items (new_worker opened number).plain last.plain mine
whole_row x opened number log popped last w =
    let row = units_row x number w.own (new_worker opened number) w.done w.all w.work in (
      row.0,
      record {
        commands = row.1.commands;
        chained = row.1.chained;
        ends = row.1.ends ∙ still_plain x x.script.sweep (command_serial number (length (worker_commands x.script number))) w.told popped w.done last w.helped;
        each = λ k y at. let d = row.1.each k y at in record {
          by_is = d.by_is;
          command = d.command;
          answered = d.answered;
          answer = ap (λ (l : List Answered). slice_get l k) w.answers ∙ slice_left w.own w.told k d.answered d.answer;
          reply = d.reply;
          gives = d.gives;
        };
      },
    )

pub units_crew : (x : Shared) (opened : View) (popped : ℕ → List SweepItem) (logs : List WorkerLog) (lasts : List CrewState) → length lasts ≡ length logs
    → ((i : ℕ) (log : WorkerLog) (last : CrewState) → slice_get logs i ≡ Some log → slice_get lasts i ≡ Some last → HasWorked x opened i log (popped i) last)
    → (workers : List (List UnitsStep)) × IsUnitsCrew x opened logs lasts workers
units_crew x opened popped logs lasts same worked =
    let t = choose (λ (i : ℕ) (log : WorkerLog) (last : CrewState) (mine : List UnitsStep). IsUnitsRow x.script (command_serial i) (worker_commands x.script i) log.answers.items (new_worker opened i).plain last.plain mine) logs lasts same
    (λ i log last at_log at_last. whole_row x opened i log (popped i) last (worked i log last at_log at_last)) in
    (t.0, record { workers_are = t.1; each = t.2 })
