-- SPDX-License-Identifier: GPL-2.0-only
-- What the workers did: each command, and behind them the sweep of a script that has one.
use Rattle.std.specs.Prelude.{◌≡◌, ℕ, ◌+◌, true, List, [], ◌∷◌, ◌++◌, flat_map, slice_get, Option, Some, None}
use Rattle.std.specs.Option.{IsSomeAnd}
use mathlib.Core.Option.{some}
use lib.ListN.{get_elem?}
use Rattle.shr_base.specs.declared.places.Serial.{Serial}
use Rattle.shr_base.specs.declared.replies.Answered.{Answered}
use Rattle.shr_base.specs.declared.scripts.Command.{Command}
use Rattle.shr_model.specs.Commands.{is_put}
use Rattle.shr_seats.specs.Weights.{Begins}
use Rattle.shr_core.specs.Gained.{Adds}
use Rattle.shr_charge.specs.Charging.{AreRising}
use Rattle.shr_charge.specs.Views.{both_uses}
use Rattle.shr_deferred.specs.Moves.{both}
use Rattle.shr_walk.specs.State.{WorkerState, Work}

-- What a worker did of its own: one of its commands, or its part of the sweep, which has none. With its answer, the worker's
-- state before and after it, and what it added.
pub record Step : Type 0 where
  pub by : Serial
  pub command : Option Command
  pub answered : Answered
  pub before : WorkerState
  pub after : WorkerState
  pub work : Work

-- what a step was asked is a put
abbrev pub IsPut : Option Command → Type 0
IsPut c = IsSomeAnd c (λ d. is_put d ≡ true)

-- an element of a list
abbrev pub IsAmong : {A : Type 0} → A → List A → Type 0
IsAmong {A} x xs = (j : ℕ) × (get_elem? xs j ≡ some x)

-- what the steps of all workers have, those of each worker in order
abbrev pub gathered : {A : Type 0} → (Step → List A) → List (List Step) → List A
gathered f workers = flat_map (λ (mine : List Step). flat_map f mine) workers

-- the steps of a worker, and the step of a command
abbrev pub steps_in : Option (List Step) → List Step
steps_in None = []
steps_in (Some mine) = mine

-- those of the worker with this number
abbrev pub steps_of : List (List Step) → ℕ → List Step
steps_of workers worker = steps_in (slice_get workers worker)

-- the step of a command, by the numbers of its worker and its own
abbrev pub step_of_command : List (List Step) → Serial → Option Step
step_of_command workers by = slice_get (steps_of workers by.worker) by.command

-- All that a command adds to its worker's state, and nothing else. Whether the worker may uncharge
-- once more it doesn't say: where a charge is taken back, no clause tells that.
pub record BringsWork (s t : WorkerState) (w : Work) : Type 0 where
  pub core : Adds s.core t.core w.core
  pub uses : t.uses ≡ both_uses s.uses (record { ops = w.ops; charges = w.charges; uncharges = w.uncharges; seats = 0 })
  pub noted : t.noted ≡ s.noted ++ w.ops
  pub words : t.tree.loaded ≡ s.tree.loaded ++ w.words
  pub tree : t.tree.made ≡ s.tree.made ++ w.tree
  pub gives : t.tree.gives ≡ s.tree.gives + w.gives
  pub known : Begins s.tree.known t.tree.known
  pub heard : t.tree.heard ≡ s.tree.heard
  pub hand : (t.tree.in_hand ≡ s.tree.in_hand) × (t.tree.hand ≡ s.tree.hand)
  -- the numbers of a group's operations rise, if they did before
  pub rise : AreRising s.uses.ops → AreRising t.uses.ops
  pub moves : t.moves ≡ both s.moves w.moves
  pub walks : t.walks ≡ s.walks ++ w.walks
  pub carries : t.carries ≡ s.carries ++ w.carries

-- each step begins in the state in which the one before it ended, and the first in this one
abbrev pub AreStepsChained : WorkerState → List Step → Type 0
AreStepsChained s [] = Unit {0}
AreStepsChained s (x ∷ xs) = (x.before ≡ s) × BringsWork x.before x.after x.work × AreStepsChained x.after xs

-- the state after these steps
abbrev pub worker_state_after : WorkerState → List Step → WorkerState
worker_state_after s [] = s
worker_state_after s (x ∷ xs) = worker_state_after x.after xs

-- A state has all that an earlier one had, in order, and maybe more.
pub record Grows (s t : WorkerState) : Type 0 where
  pub made : Begins s.core.traces.made t.core.traces.made
  pub seen : Begins s.core.traces.seen t.core.traces.seen
  pub known : Begins s.core.traces.known t.core.traces.known
  pub sets : Begins s.core.marks.sets t.core.marks.sets
  pub pool : Begins s.core.turns.known t.core.turns.known
  pub dated : Begins s.core.turns.dated t.core.turns.dated
  pub tree : Begins s.tree.known t.tree.known
  pub words : Begins s.tree.loaded t.tree.loaded
  pub walks : Begins s.walks t.walks
