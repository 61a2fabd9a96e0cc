-- SPDX-License-Identifier: GPL-2.0-only
-- The sweep of a script: what its helpers are given, what they did, and what their passes popped.
use Rattle.std.specs.Prelude.{◌≡◌, ℕ, ◌≤◌, List, [], ◌∷◌, ◌++◌, length, slice_get, Option, Some, None, All, IsTrue}
use Rattle.shr_base.specs.declared.replies.Answered.{Answered}
use Rattle.shr_base.specs.declared.scripts.Sweep.{Sweep}
use Rattle.shr_seats.specs.Standing.{at_first, at_split}
use Rattle.shr_pool.specs.declared.items.SweepItem.{SweepItem}
use Rattle.shr_pool.specs.declared.jobs.JobPass.{JobPass}
use Rattle.shr_pool.specs.declared.jobs.JobQueue.{JobQueue}
use Rattle.shr_pool.specs.declared.view.PassView.{PassView}
use Rattle.shr_pool.specs.Passes as passes
use Rattle.shr_pool.specs.Worked.{AreEachOnce}
use Rattle.shr_pool.specs.declared.answers.SweepAnswer.{SweepAnswer}
use Rattle.shr_pool.specs.Helping.{HelpGives, IsLineWithin}
use Rattle.shr_walk.specs.declared.seats.Shared.{Shared}
use Rattle.shr_walk.specs.Acting.{IsFit}
use Rattle.shr_walk.specs.State.{IsRested, state_of}
use Rattle.shr_worker.specs.declared.tasks.WorkerResult.{WorkerResult}
use Rattle.shr_worker.specs.Chain.{command_serial}
use Rattle.shr_worker.specs.Replies.{unfound}
use Rattle.shr_assemble.specs.Ends.{HasHelped, sweep_reply}
use Rattle.shr_lawful.specs.Sweeps.{ArePoppedOnce, all_popped}
use Rattle.shr_run.specs.declared.sweeping.Helped.{Helped}
use Rattle.shr_run.specs.Joins.{last_of}

-- a worker's seats are of the tables and hold nothing, and where its result is whole it has no more answers than a script has commands
pub record IsWorkerDone (x : Shared) (w : WorkerResult) : Type 0 where
  pub fit : IsFit x w.seats
  pub few : IsTrue w.whole → length w.answers.items ≤ 20000

-- a worker that is to help, its pass, and the tables that it runs with
pub record Helping : Type 0 where
  pub shared : Shared
  pub worker : WorkerResult
  pub pass : JobPass

-- the worker that is to help
abbrev pub worker_of : Helping → WorkerResult
worker_of h = h.worker

-- and the one that has helped
abbrev pub helped_of : Helped → WorkerResult
helped_of k = k.worker

-- the items that a helper took from the queue
abbrev pub popped_of : Helped → List SweepItem
popped_of k = (passes.pass_view k.pass).popped

-- a pass that was handed out, of a queue into which these items were pushed
abbrev pub new_pass : List SweepItem → PassView
new_pass pushed = record { pushed = pushed; popped = []; standing = at_split }

-- the first pass of it, once so many were handed out
abbrev pub handed_out : List SweepItem → ℕ → PassView
handed_out pushed splits = record { pushed = pushed; popped = []; standing = record at_first { splits = splits } }

-- it is to run with these tables, and its pass is a new one of this queue
pub record HasPass (x : Shared) (q : JobQueue) (pushed : List SweepItem) (h : Helping) : Type 0 where
  pub shared : h.shared ≡ x
  pub pass : passes.IsJobPass q h.pass
  pub view : passes.pass_view h.pass ≡ new_pass pushed

-- a helper that may begin
pub record IsHelperReady (q : JobQueue) (h : Helping) : Type 0 where
  pub done : IsWorkerDone h.shared h.worker
  pub whole : IsTrue h.worker.whole
  pub pass : passes.IsHandedOut q h.pass
  pub fresh : (passes.pass_view h.pass).popped ≡ []
  pub line : IsLineWithin h.shared (passes.pass_view h.pass)

-- it has one answer more, and what it did was this
pub record HasAnswered (z : Sweep) (h : Helping) (k : Helped) : Type 0 where
  pub answer : SweepAnswer
  pub answers : k.worker.answers.items ≡ h.worker.answers.items ++ unfound (sweep_reply answer) ∷ []
  pub gives : HelpGives h.shared (command_serial h.worker.number (length h.worker.answers.items)) z.priority z.nofs answer (passes.pass_view h.pass) (passes.pass_view k.pass) (state_of h.worker.seats) (state_of k.worker.seats)

-- A helper is done: its seats hold nothing and owe nothing, and where its result is whole it has answered.
pub record HasHelpedOut (q : JobQueue) (z : Sweep) (h : Helping) (k : Helped) : Type 0 where
  pub number : k.worker.number ≡ h.worker.number
  pub plain : k.worker.plain ≡ h.worker.plain
  pub isolations : k.worker.isolations.items ≡ h.worker.isolations.items
  pub rested : IsRested h.shared k.worker.seats
  pub pass : passes.IsHandedOut q k.pass
  pub whole : IsTrue k.worker.whole → HasAnswered z h k

-- each did
abbrev pub HaveHelpedOut : JobQueue → Sweep → List Helping → List Helped → Type 0
HaveHelpedOut q z hs ks = (i : ℕ) (h : Helping) (k : Helped) → slice_get hs i ≡ Some h → slice_get ks i ≡ Some k → HasHelpedOut q z h k

-- a pass of this queue that may be joined
abbrev pub IsPassBack : JobQueue → Helped → Type 0
IsPassBack q k = passes.IsHandedOut q k.pass

-- what these passes popped, no job twice, and all where one popped a mark
pub record AreOnce (nodes groups : ℕ) (popped : List SweepItem) : Type 0 where
  pub view : PassView
  pub same : view.popped ≡ popped
  pub once : AreEachOnce nodes groups view

-- a worker's part of the sweep: its pass popped these items
pub record HasSweptAt (x : Shared) (z : Sweep) (popped : List SweepItem) (v w : WorkerResult) : Type 0 where
  pub number : w.number ≡ v.number
  pub plain : w.plain ≡ v.plain
  pub rested : IsRested x w.seats
  -- where its result is whole it has answered
  pub helped : IsTrue w.whole → (told : List Answered) × (w.answers.items ≡ v.answers.items ++ told) × HasHelped x z (command_serial v.number (length v.answers.items)) told popped (last_of v) (last_of w)

-- the sweep was made: all results were whole, and each worker did its part
pub record HaveSwept (x : Shared) (z : Sweep) (old new : List WorkerResult) : Type 0 where
  pub same : length new ≡ length old
  pub whole : All (λ (w : WorkerResult). IsTrue w.whole) old
  pub popped : ℕ → List SweepItem
  pub each : (i : ℕ) (v w : WorkerResult) → slice_get old i ≡ Some v → slice_get new i ≡ Some w → HasSweptAt x z (popped i) v w
  pub once : ArePoppedOnce x.script (all_popped popped (length old))

-- it was made if the script has one, and else nothing was done
abbrev pub SweepsIf : Shared → Option Sweep → List WorkerResult → List WorkerResult → Type 0
SweepsIf x None old new = new ≡ old
SweepsIf x (Some z) old new = HaveSwept x z old new
