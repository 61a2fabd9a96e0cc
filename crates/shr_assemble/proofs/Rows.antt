-- SPDX-License-Identifier: GPL-2.0-only
-- The steps of a worker from the states between its commands, and what they have in all.
use Rattle.shr_assemble.proofs.Common.{◌≡◌, ℕ, ◌∙◌, refl, arith, None, AreRising, View, WorkerState, Work, new_worker, BringsWork, IsUsing, zero, suc, ◌+◌, ◌<◌, List, [], ◌∷◌, ◌++◌, length, length-append, take, sym, ap, subst, append_assoc, slice_get, Option, Some, flat_map, AllByRecursion, append-nil, same_Some, none-some, Serial, Answered, Command, Script, Sweep, WorkerScript, Isolation, IsCommandWithin, isolations_told, content_of, IsShared, Shared, CrewState, DeedGives, IsWorkOf, SweepItem, End, parents_of, Step, AreStepsChained, worker_state_after, Did, HasHelped, isolated_in, isolated_before, DidIsolations, IsOfPops, listed_commands, worker_commands, command_serial}
use Rattle.shr_assemble.proofs.OfflineDid.{IsHandless}
use Rattle.shr_worker.proofs.Within.{command_within}
use Rattle.shr_pool.specs.declared.items.SweepItem.TheVariants.{Walk}

-- the numbers of each group's operations rise, the room of the journal of the tree isn't in hand, and no id is held or used
pub record IsFit (t : WorkerState) : Type 0 where
  pub rising : AreRising t.uses.ops
  pub home : IsHandless t.tree
  pub free : t.core.claims.held ≡ None
  pub using : IsUsing t.core

-- a new worker is fit
pub fit_new : (opened : View) (number : ℕ) → IsFit (new_worker opened number).seats
fit_new opened number = record { rising = λ i j d lt within. absurd (omega (arith, within)); home = record { out = refl; none = refl }; free = refl; using = λ i. refl }

-- each command leaves its worker fit
pub fit_kept : (s t : WorkerState) (w : Work) → BringsWork s t w → t.core.claims.held ≡ None → IsFit s → IsFit t
fit_kept s t w b free fit = record {
  rising = b.rise fit.rising;
  home = record { out = b.hand.0 ∙ fit.home.out; none = b.hand.1 ∙ fit.home.none };
  free = free;
  using = b.core.using fit.using;
}

-- A command did its work, between these states. Its isolation stands behind those of its worker, and is as the law asks.
pub record Worked (s : Script) (by : Serial) (c : Command) (a : Answered) (t u : CrewState) : Type 0 where
  pub work : Work
  pub brings : BringsWork t.seats u.seats work
  pub did : Did s (record { by = by; command = Some c; answered = a; before = t.seats; after = u.seats; work = work })
  pub recorded : u.isolations ≡ t.isolations ++ isolations_told by c a
  pub by_law : DidIsolations s (record { by = by; command = Some c; answered = a; before = t.seats; after = u.seats; work = work }) (length t.isolations)
  pub free : u.seats.core.claims.held ≡ None

-- a worker's steps: one for each of these commands and answers, by these serials, from the first state to the last
pub record IsRow (s : Script) (by : ℕ → Serial) (cs : List Command) (said : List Answered) (first last : CrewState) (mine : List Step) : Type 0 where
  pub commands : length cs ≡ length mine
  pub answers : length said ≡ length mine
  pub chained : AreStepsChained first.seats mine
  pub ends : worker_state_after first.seats mine ≡ last.seats
  pub each : (k : ℕ) (x : Step) → slice_get mine k ≡ Some x → (x.by ≡ by k) × (slice_get cs k ≡ x.command) × (slice_get said k ≡ Some x.answered) × Did s x
  pub recorded : last.isolations ≡ first.isolations ++ flat_map isolated_in mine
  pub by_law : (k : ℕ) (x : Step) → slice_get mine k ≡ Some x → DidIsolations s x (length first.isolations + isolated_before mine k)
  pub fit : (k : ℕ) (x : Step) → slice_get mine k ≡ Some x → IsFit x.before
  pub done : IsFit last.seats

pub row : (s : Script) (by : ℕ → Serial) (cs : List Command) (said : List Answered) (t : CrewState) (us : List CrewState) (last : CrewState) → IsFit t.seats → length said ≡ length cs → length us ≡ length said
    → ((k : ℕ) (c : Command) (a : Answered) (v w : CrewState) → IsFit v.seats → slice_get cs k ≡ Some c → slice_get said k ≡ Some a → slice_get (t ∷ us) k ≡ Some v → slice_get (t ∷ us) (suc k) ≡ Some w → Worked s (by k) c a v w)
    → slice_get (t ∷ us) (length said) ≡ Some last → (mine : List Step) × IsRow s by cs said t last mine
row s by [] [] t us last fit same more each end = let is : t ≡ last = same_Some t last end in (
  [],
  record {
    commands = refl;
    answers = refl;
    chained = tt;
    ends = ap (λ (u : CrewState). u.seats) is;
    each = λ k x e. absurd (none-some x e);
    recorded = ap (λ (u : CrewState). u.isolations) (sym is) ∙ sym (append-nil t.isolations);
    by_law = λ k x e. absurd (none-some x e);
    fit = λ k x e. absurd (none-some x e);
    done = subst (λ (u : CrewState). IsFit u.seats) is fit;
  },
)
row s by [] (a ∷ said) t us last fit same more each end = absurd (omega (arith, same))
row s by (c ∷ cs) [] t us last fit same more each end = absurd (omega (arith, same))
row s by (c ∷ cs) (a ∷ said) t [] last fit same more each end = absurd (omega (arith, more))
row s by (c ∷ cs) (a ∷ said) t (u ∷ us) last fit same more each end =
    let g : Worked s (by 0) c a t u = each 0 c a t u fit refl refl refl refl in
    let x : Step = record { by = by 0; command = Some c; answered = a; before = t.seats; after = u.seats; work = g.work } in
    let rest = row s (λ k. by (suc k)) cs said u us last (fit_kept t.seats u.seats g.work g.brings g.free fit) (omega (arith, same)) (omega (arith, more)) (λ k d b v w. each (suc k) d b v w) end in (
      x ∷ rest.0,
      record {
        commands = omega (arith, rest.1.commands);
        answers = omega (arith, rest.1.answers);
        chained = (refl, g.brings, rest.1.chained);
        ends = rest.1.ends;
        each = λ k y e. at x rest.0 rest.1.each g.did refl refl refl k y e;
        recorded = rest.1.recorded ∙ (ap (λ l. l ++ flat_map isolated_in rest.0) g.recorded ∙ append_assoc t.isolations (isolated_in x) (flat_map isolated_in rest.0));
        by_law = λ k y e. at_law x rest.0 (length u.isolations) (ap (λ (l : List Isolation). length l) g.recorded ∙ length-append t.isolations (isolated_in x)) rest.1.by_law g.by_law k y e;
        fit = λ k y e. at_fit x rest.0 fit rest.1.fit k y e;
        done = rest.1.done;
      },
    ) where
      at_fit : (x : Step) (xs : List Step) → IsFit x.before → ((k : ℕ) (y : Step) → slice_get xs k ≡ Some y → IsFit y.before) → (k : ℕ) (y : Step) → slice_get (x ∷ xs) k ≡ Some y → IsFit y.before
      at_fit x xs one others zero y is = subst (λ (z : Step). IsFit z.before) (same_Some x y is) one
      at_fit x xs one others (suc k) y is = others k y is

      at : (x : Step) (xs : List Step) → ((k : ℕ) (y : Step) → slice_get xs k ≡ Some y → (y.by ≡ by (suc k)) × (slice_get cs k ≡ y.command) × (slice_get said k ≡ Some y.answered) × Did s y)
          → Did s x → (x.by ≡ by 0) → (x.command ≡ Some c) → (x.answered ≡ a) → (k : ℕ) (y : Step) → slice_get (x ∷ xs) k ≡ Some y → (y.by ≡ by k) × (slice_get (c ∷ cs) k ≡ y.command) × (slice_get (a ∷ said) k ≡ Some y.answered) × Did s y
      at x xs others did b d e zero y is = subst (λ (z : Step). (z.by ≡ by 0) × (Some c ≡ z.command) × (Some a ≡ Some z.answered) × Did s z) (same_Some x y is) (b, sym d, ap Some (sym e), did)
      at x xs others did b d e (suc k) y is = others k y is

      at_law : (x : Step) (xs : List Step) (n : ℕ) → n ≡ length t.isolations + length (isolated_in x) → ((k : ℕ) (y : Step) → slice_get xs k ≡ Some y → DidIsolations s y (n + isolated_before xs k))
          → DidIsolations s x (length t.isolations) → (k : ℕ) (y : Step) → slice_get (x ∷ xs) k ≡ Some y → DidIsolations s y (length t.isolations + isolated_before (x ∷ xs) k)
      at_law x xs n same others did zero y is = subst (λ (m : ℕ). DidIsolations s y m) (let z : length t.isolations ≡ length t.isolations + 0 = omega arith in z) (subst (λ (z : Step). DidIsolations s z (length t.isolations)) (same_Some x y is) did)
      at_law x xs n same others did (suc k) y is = subst (λ (m : ℕ). DidIsolations s y m) (omega (arith, same, length-append (isolated_in x) (flat_map isolated_in (take k xs)))) (others k y is)

row_from : (s : Script) (by : ℕ → Serial) (cs : List Command) (said : List Answered) (first last : CrewState) (ts : List CrewState) → IsFit first.seats → length said ≡ length cs
    → slice_get ts 0 ≡ Some first → slice_get ts (length said) ≡ Some last → length ts ≡ suc (length said)
    → ((k : ℕ) (c : Command) (a : Answered) (v w : CrewState) → IsFit v.seats → slice_get cs k ≡ Some c → slice_get said k ≡ Some a → slice_get ts k ≡ Some v → slice_get ts (suc k) ≡ Some w → Worked s (by k) c a v w)
    → (mine : List Step) × IsRow s by cs said first last mine
row_from s by cs said first last [] fit same start end more each = absurd (none-some first start)
row_from s by cs said first last (t ∷ us) fit same start end more each =
    subst (λ (f : CrewState). (mine : List Step) × IsRow s by cs said f last mine) (same_Some t first start) (row s by cs said t us last (subst (λ (f : CrewState). IsFit f.seats) (sym (same_Some t first start)) fit) same (omega (arith, more)) each end)

-- a worker's part of the sweep, between these states
abbrev pub swept_step : Serial → Answered → WorkerState → WorkerState → Work → Step
swept_step by a t u w = record { by = by; command = None; answered = a; before = t; after = u; work = w }

-- it did so, by walks of jobs that its pass popped
pub record SweptPart (s : Script) (by : Serial) (a : Answered) (popped : List SweepItem) (t u : WorkerState) : Type 0 where
  pub work : Work
  pub does : BringsWork t u work
  pub did : Did s (swept_step by a t u work)
  pub pops : IsOfPops popped work.walks a.reply

-- an item is of a group on a node of the script
abbrev pub IsThereItem : Script → SweepItem → Type 0
IsThereItem s (Walk j) = (j.node < s.nodes) × (j.group < length (parents_of s))
IsThereItem s End = Unit {0}

-- Each command's clauses give what it did, where it names what is there and its worker is fit. So do those of a helper, where
-- what it popped is there.
pub record DidEach (x : Shared) : Type 0 where
  pub command : (by : Serial) (c : Command) (a : Answered) (t u : CrewState) → IsCommandWithin (content_of x.script) c → IsFit t.seats → DeedGives x by c a t u → Worked x.script by c a t u
  pub sweep : (z : Sweep) (by : Serial) (told : List Answered) (popped : List SweepItem) (t u : CrewState) → x.script.sweep ≡ Some z → AllByRecursion (IsThereItem x.script) popped → HasHelped x z by told popped t u
      → (a : Answered) × (told ≡ a ∷ []) × SweptPart x.script by a popped t.seats u.seats

-- each command of a script that is valid names what is there
pub within_at : (x : Shared) → IsShared x → (number k : ℕ) (c : Command) → slice_get (worker_commands x.script number) k ≡ Some c → IsCommandWithin (content_of x.script) c
within_at x shared number k c at = in_script (slice_get x.script.workers.items number) refl at where
  in_script : (w : Option WorkerScript) → w ≡ slice_get x.script.workers.items number → slice_get (listed_commands w) k ≡ Some c → IsCommandWithin (content_of x.script) c
  in_script None there e = absurd (none-some c e)
  in_script (Some w) there e = command_within x shared number w there k c e

-- the steps of a worker that answered all its commands
pub row_of : (x : Shared) → IsShared x → DidEach x → (number : ℕ) (said : List Answered) (first last : CrewState) → IsFit first.seats → length said ≡ length (worker_commands x.script number) → IsWorkOf x number said first last
    → (mine : List Step) × IsRow x.script (command_serial number) (worker_commands x.script number) said first last mine
row_of x shared did number said first last fit all work = row_from x.script (command_serial number) (worker_commands x.script number) said first last work.states fit all work.starts work.ends work.one_more
    (λ k c a v w fit_v at_c at_a at_v at_w. did.command (command_serial number k) c a v w (within_at x shared number k c at_c) fit_v (work.each k c a v w at_c at_a at_v at_w))

-- a list of the state that each step makes longer
pub along : {A : Type 0} (g : WorkerState → List A) (h : Step → List A) → ((x : Step) → BringsWork x.before x.after x.work → g x.after ≡ g x.before ++ h x)
    → (t : WorkerState) (mine : List Step) → AreStepsChained t mine → g (worker_state_after t mine) ≡ g t ++ flat_map h mine
along g h one t [] c = sym (append-nil (g t))
along g h one t (x ∷ xs) c = along g h one x.after xs c.2 ∙ (ap (λ l. l ++ flat_map h xs) (one x c.1 ∙ ap (λ (u : WorkerState). g u ++ h x) c.0) ∙ append_assoc (g t) (h x) (flat_map h xs))
