-- SPDX-License-Identifier: GPL-2.0-only
-- What the workers leave, and their joining.
use Rattle.std.specs.Prelude.{◌≡◌, ℕ, ◌+◌, List, length, map}
use Rattle.shr_core.specs.Seats.{view_of}
use Rattle.shr_core.specs.Steps.{IsAtRest}
use Rattle.shr_charge.specs.Seat.{uses_of, tree_of}
use Rattle.shr_deferred.specs.Seat.{moves_of, strands_of}
use Rattle.shr_plain.specs.Seat as plain
use Rattle.shr_tables.specs.declared.tables.CrewSeats.{CrewSeats}
use Rattle.shr_tables.specs.Firsts.{Held, held_by}
use Rattle.shr_tables.specs.Parted.{AreParted}
use Rattle.shr_worker.specs.declared.tasks.WorkerResult.{WorkerResult}
use Rattle.shr_worker.specs.Chain.{CrewState, crew_of}
use Rattle.shr_assemble.specs.Ends.{Firsts, with_workers}
use Rattle.shr_assemble.specs.declared.logs.WorkerLog.{WorkerLog}

-- all seats of a worker
abbrev pub seats_in : WorkerResult → CrewSeats
seats_in w = record { seats = w.seats; plain = w.plain }

-- a worker's seats are of these tables, and hold nothing and owe nothing
pub record IsAtEnd (h : Held) (w : WorkerResult) : Type 0 where
  pub tables : held_by (seats_in w) ≡ h
  pub rest : IsAtRest (view_of w.seats.cache.core)

-- what a worker answered and noted
abbrev pub log_of : WorkerResult → WorkerLog
log_of w = record { answers = w.answers; walks = w.seats.walks; carries = w.seats.carries; uses = w.seats.cache.uses; plain = plain.plain_walks_of w.plain; isolations = w.isolations }

-- the last state of a worker
abbrev pub last_of : WorkerResult → CrewState
last_of w = crew_of w.seats w.plain w.isolations.items

-- what the first seats have done and seen
abbrev pub firsts_of : CrewSeats → Firsts
firsts_of s = record { core = view_of s.seats.cache.core; uses = uses_of s.seats.cache.charge; tree = tree_of s.seats.cache.charge; moves = moves_of s.seats.deferred; strands = strands_of s.seats.deferred; plain = plain.plain_state_of s.plain }

-- the seats of these workers were joined into the first ones, in order
pub record AreJoinedAll (old : CrewSeats) (results : List WorkerResult) (new : CrewSeats) : Type 0 where
  pub tables : held_by new ≡ held_by old
  pub firsts : firsts_of new ≡ with_workers (firsts_of old) (map last_of results)
  pub parted : (splits joins : ℕ) → AreParted old splits joins → AreParted new splits (joins + length results)
