-- SPDX-License-Identifier: GPL-2.0-only
-- The tasks of the workers, and what running one gives.
use Rattle.std.specs.Prelude.{◌≡◌, ℕ, List, [], ◌∷◌, length, slice_get, Some, IsTrue}
use Rattle.shr_core.specs.declared.view.View.{View}
use Rattle.shr_core.specs.Seats.{view_of}
use Rattle.shr_charge.specs.Seat.{uses_of, tree_of}
use Rattle.shr_charge.specs.Views.{own_uses, no_tree}
use Rattle.shr_deferred.specs.Seat.{moves_of, strands_of}
use Rattle.shr_deferred.specs.Moves.{no_moves}
use Rattle.shr_plain.specs.Seat.{no_state}
use Rattle.shr_plain.specs.Seat as plain
use Rattle.shr_walk.specs.declared.seats.Shared.{Shared}
use Rattle.shr_walk.specs.State.{IsRested}
use Rattle.shr_tables.specs.declared.tables.CrewSeats.{CrewSeats}
use Rattle.shr_tables.specs.declared.tables.Tables.{Tables}
use Rattle.shr_tables.specs.Firsts.{AreFirst, held_by, held_in}
use Rattle.shr_tables.specs.Parted.{AreParted}
use Rattle.shr_worker.specs.declared.tasks.Task.{Task}
use Rattle.shr_worker.specs.declared.tasks.WorkerResult.{WorkerResult}
use Rattle.shr_worker.specs.Chain.{IsWorkOf, worker_commands, crew_of}
use Rattle.shr_worker.specs.Tasks.{IsTask}
use Rattle.shr_assemble.specs.Ends.{new_worker}

-- the first seats were split so often since the caches were registered, and did nothing else
pub record AreSplitOff (x : Tables) (opened : View) (splits : ℕ) (first : CrewSeats) : Type 0 where
  pub tables : held_by first ≡ held_in x
  pub first_seats : AreFirst first
  pub parted : AreParted first splits 0
  pub core : view_of first.seats.cache.core ≡ record opened { standing = (view_of first.seats.cache.core).standing }
  pub uses : uses_of first.seats.cache.charge ≡ own_uses
  pub tree : tree_of first.seats.cache.charge ≡ no_tree
  pub moves : moves_of first.seats.deferred ≡ no_moves
  pub strands : strands_of first.seats.deferred ≡ no_moves ∷ []
  pub state : plain.plain_state_of first.plain ≡ no_state

-- a worker that can start: its task, and the tables that it runs with
pub record Starting : Type 0 where
  pub shared : Shared
  pub task : Task

-- that of the worker with this number, with new seats
pub record IsTaskOf (x : Tables) (opened : View) (number : ℕ) (s : Starting) : Type 0 where
  pub shared : s.shared ≡ x.shared
  pub numbered : s.task.number ≡ number
  pub task_is : IsTask x.shared s.task
  pub pools : s.task.plain.pools ≡ x.pools
  pub new : crew_of s.task.seats s.task.plain [] ≡ new_worker opened number

-- one for each of the first workers
abbrev pub AreTasks : Tables → View → List Starting → Type 0
AreTasks x opened starts = (i : ℕ) (s : Starting) → slice_get starts i ≡ Some s → IsTaskOf x opened i s

-- a worker ran its task to the end: its seats hold nothing, and where its result is whole it answered each command
pub record HasRun (s : Starting) (w : WorkerResult) : Type 0 where
  pub number : w.number ≡ s.task.number
  pub rested : IsRested s.shared w.seats
  pub pools : w.plain.pools ≡ s.task.plain.pools
  pub all : IsTrue w.whole → length w.answers.items ≡ length (worker_commands s.shared.script s.task.number)
  pub work : IsTrue w.whole → IsWorkOf s.shared s.task.number w.answers.items (crew_of s.task.seats s.task.plain []) (crew_of w.seats w.plain w.isolations.items)

-- each of these results is that of the task at its place
abbrev pub HaveRun : List Starting → List WorkerResult → Type 0
HaveRun starts results = (i : ℕ) (s : Starting) (w : WorkerResult) → slice_get starts i ≡ Some s → slice_get results i ≡ Some w → HasRun s w
