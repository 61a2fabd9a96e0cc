-- SPDX-License-Identifier: GPL-2.0-only
-- What a helper of a sweep did, by its answer.
use Rattle.std.specs.Prelude.{◌≡◌, ℕ, ◌≤◌, Bool, List, [], ◌∷◌, ◌++◌, length, map, sum}
use Rattle.shr_base.specs.declared.places.Serial.{Serial}
use Rattle.shr_model.specs.Walks.{Job, job}
use Rattle.shr_seats.specs.Shapes.{groups_in}
use Rattle.shr_core.specs.Seats.{shape_of}
use Rattle.shr_walk.specs.Balances.{walk_freed}
use Rattle.shr_walk.specs.State.{WorkerState}
use Rattle.shr_walk.specs.declared.seats.Shared.{Shared}
use Rattle.shr_walk.specs.Rounds.{Visit, AreVisited, IsLastVisitCut, WalksAll, job_in}
use Rattle.shr_pool.specs.Lines.{queue_line}
use Rattle.shr_pool.specs.declared.items.SweepItem.{SweepItem}
use Rattle.shr_pool.specs.declared.items.SweepItem.TheVariants.{Walk, End}
use Rattle.shr_pool.specs.declared.items.SweepJob.{SweepJob}
use Rattle.shr_pool.specs.declared.view.PassView.{PassView}
use Rattle.shr_pool.specs.declared.answers.SweepAnswer.{SweepAnswer}
use Rattle.shr_pool.specs.declared.answers.SweepAnswer.TheVariants as sweep

-- a pass knows that a job was pushed for each group on each node, of no more groups and nodes than there are, and the marks
-- behind them
pub record IsLineWithin (x : Shared) (v : PassView) : Type 0 where
  pub nodes : ℕ
  pub groups : ℕ
  pub line : v.pushed ≡ queue_line nodes groups
  pub nodes_within : nodes ≤ (shape_of x.core).nodes
  pub groups_within : groups ≤ groups_in (shape_of x.core)

-- the walk that a sweep of this priority and kind makes of a job
abbrev pub walk_of_job : ℕ → Bool → SweepJob → Job
walk_of_job priority nofs j = job j.group j.node priority nofs

-- the pass popped these items more, and nothing else of it changed
abbrev pub with_pops : PassView → List SweepItem → PassView
with_pops v items = record v { popped = v.popped ++ items }

-- what a walk freed
abbrev pub visit_freed : Visit → ℕ
visit_freed v = walk_freed v.answer

-- These jobs were popped, and then the mark. They were walked in the order in which they were popped, each once, and each
-- walk had memory.
pub record HasSwept (x : Shared) (by : Serial) (priority : ℕ) (nofs : Bool) (count freed : ℕ) (v w : PassView) (s t : WorkerState) : Type 0 where
  pub jobs : List SweepJob
  pub walks : List Visit
  pub popped : w ≡ with_pops v (map Walk jobs ++ End ∷ [])
  pub walked : WalksAll x by (map (walk_of_job priority nofs) jobs) walks s t
  pub counted : count ≡ length jobs
  pub sum_freed : freed ≡ sum (map visit_freed walks)

-- These jobs were popped and walked in the order in which they were popped, each once, and the walk of the last one alone
-- lacked memory. No mark was popped.
pub record HasStopped (x : Shared) (by : Serial) (priority : ℕ) (nofs : Bool) (freed : ℕ) (v w : PassView) (s t : WorkerState) : Type 0 where
  pub jobs : List SweepJob
  pub walks : List Visit
  pub popped : w ≡ with_pops v (map Walk jobs)
  pub visited : AreVisited x by walks s t
  pub each : map job_in walks ≡ map (walk_of_job priority nofs) jobs
  pub cut : IsLastVisitCut walks
  pub sum_freed : freed ≡ sum (map visit_freed walks)

-- what a helper did, from the views of its pass and the states of its seats before to those after
abbrev pub HelpGives : Shared → Serial → ℕ → Bool → SweepAnswer → PassView → PassView → WorkerState → WorkerState → Type 0
HelpGives x by priority nofs (sweep.Swept count freed) v w s t = HasSwept x by priority nofs count freed v w s t
HelpGives x by priority nofs (sweep.Memory freed) v w s t = HasStopped x by priority nofs freed v w s t
