-- SPDX-License-Identifier: GPL-2.0-only
-- What the workers did at the pools of units, command by command.
use Rattle.std.specs.Prelude.{◌≡◌, ℕ, List, [], ◌∷◌, flat_map, slice_get, Option, Some, None}
use Rattle.shr_base.specs.declared.journals.PlainEntry.{PlainEntry}
use Rattle.shr_base.specs.declared.places.Serial.{Serial}
use Rattle.shr_base.specs.declared.replies.Reply.{Reply}
use Rattle.shr_base.specs.declared.scripts.Command.{Command}
use Rattle.shr_seats.specs.RoomViews.{RoomMade, part_at}
use Rattle.shr_plain.specs.Seat.{PlainState, no_state}

-- a command with its reply, and what its worker had done and seen at the pools before it and after it
pub record UnitsStep : Type 0 where
  pub by : Serial
  pub command : Command
  pub reply : Reply
  pub before : PlainState
  pub after : PlainState

-- the steps of a worker, none past the last worker
abbrev pub units_steps_in : Option (List UnitsStep) → List UnitsStep
units_steps_in None = []
units_steps_in (Some mine) = mine

-- those of the worker with this number
abbrev pub units_steps_of : List (List UnitsStep) → ℕ → List UnitsStep
units_steps_of workers worker = units_steps_in (slice_get workers worker)

-- each step begins in the state in which the one before it ended, and the first in this one
abbrev pub AreChained : PlainState → List UnitsStep → Type 0
AreChained s [] = Unit {0}
AreChained s (x ∷ xs) = (x.before ≡ s) × AreChained x.after xs

-- the state after these steps
abbrev pub units_state_after : PlainState → List UnitsStep → PlainState
units_state_after s [] = s
units_state_after s (x ∷ xs) = units_state_after x.after xs

-- the state after all steps of a worker
abbrev pub last_units_state : List UnitsStep → PlainState
last_units_state mine = units_state_after no_state mine

-- the entries that all workers made in a room
abbrev pub units_made_in : List (List UnitsStep) → ℕ → List (RoomMade PlainEntry)
units_made_in workers i = flat_map (λ (mine : List UnitsStep). (part_at (last_units_state mine).rooms i).made) workers
