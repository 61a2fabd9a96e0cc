-- SPDX-License-Identifier: GPL-2.0-only
-- A worker's commands, one after another.
use Rattle.std.specs.Prelude.{◌≡◌, ℕ, suc, List, [], length, slice_get, Option, Some, None}
use Rattle.shr_base.specs.declared.places.Serial.{Serial}
use Rattle.shr_base.specs.declared.replies.Answered.{Answered}
use Rattle.shr_base.specs.declared.scripts.Command.{Command}
use Rattle.shr_base.specs.declared.scripts.Script.{Script}
use Rattle.shr_base.specs.declared.scripts.WorkerScript.{WorkerScript}
use Rattle.shr_base.specs.declared.walks.Isolation.{Isolation}
use Rattle.shr_plain.specs.Seat.{PlainState, PlainSeated}
use Rattle.shr_plain.specs.Seat as plain
use Rattle.shr_walk.specs.Acting.{Acting}
use Rattle.shr_walk.specs.declared.seats.Seats.{Seats}
use Rattle.shr_walk.specs.declared.seats.Shared.{Shared}
use Rattle.shr_walk.specs.State.{WorkerState, state_of}
use Rattle.shr_worker.specs.Commands.{CommandGives}
use Rattle.shr_worker.specs.Plain.{PlainGives}
use Rattle.shr_worker.specs.Isolating.{RecordGives}

-- the commands of a worker, none past the last worker
abbrev pub listed_commands : Option WorkerScript → List Command
listed_commands None = []
listed_commands (Some w) = w.commands.items

-- those of the worker with this number
abbrev pub worker_commands : Script → ℕ → List Command
worker_commands s worker = listed_commands (slice_get s.workers.items worker)

-- a command by the numbers of its worker and its own
abbrev pub command_serial : ℕ → ℕ → Serial
command_serial worker command = record { worker = worker; command = command }

-- all that a worker's seats did and saw, those at the tables of the caches and its seat at the pools,
-- and the isolations that it recorded
pub record CrewState : Type 0 where
  pub seats : WorkerState
  pub plain : PlainState
  pub isolations : List Isolation

-- the state of a worker by its seats and its isolations
abbrev pub crew_of : Seats → PlainSeated → List Isolation → CrewState
crew_of s p is = record { seats = state_of s; plain = plain.plain_state_of p; isolations = is }

-- the same of a worker that is one value
abbrev pub crew_at : Acting → PlainSeated → List Isolation → CrewState
crew_at w p is = record { seats = w.state; plain = plain.plain_state_of p; isolations = is }

-- what a command did between two states of its worker, by its answer: at the tables of the caches,
-- at the pools, and what it recorded of an isolation; behind it the worker holds no id
pub record DeedGives (x : Shared) (by : Serial) (c : Command) (a : Answered) (s t : CrewState)
    : Type 0 where
  pub seats : CommandGives x by c a s.seats t.seats
  pub plain : PlainGives x.script by c a s.plain t.plain
  pub recorded : RecordGives x by c a s.seats t.seats s.isolations t.isolations
  pub free : t.seats.core.claims.held ≡ None

-- The worker's first commands have these answers, in order: there is a state before the first of
-- them, between each two and after the last, and each led from its state to the next by its answer.
pub record IsWorkOf (x : Shared) (number : ℕ) (answers : List Answered) (first last : CrewState)
    : Type 0 where
  pub states : List CrewState
  pub starts : slice_get states 0 ≡ Some first
  pub ends : slice_get states (length answers) ≡ Some last
  pub one_more : length states ≡ suc (length answers)
  pub each : (k : ℕ) (c : Command) (a : Answered) (t u : CrewState)
      → slice_get (worker_commands x.script number) k ≡ Some c → slice_get answers k ≡ Some a
      → slice_get states k ≡ Some t → slice_get states (suc k) ≡ Some u
      → DeedGives x (command_serial number k) c a t u
