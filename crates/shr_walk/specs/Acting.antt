-- SPDX-License-Identifier: GPL-2.0-only
-- What a contract sees of a worker.
use Rattle.std.specs.Prelude.{◌≡◌, ℕ, Bool, length}
use Rattle.shr_base.specs.declared.places.Serial.{Serial}
use Rattle.shr_walk.specs.declared.seats.Seats.{Seats}
use Rattle.shr_walk.specs.declared.seats.Shared.{Shared}
use Rattle.shr_walk.specs.declared.walking.Walk.{Walk}
use Rattle.shr_walk.specs.State.{WorkerState, IsRested, state_of}
use Rattle.shr_walk.specs.Sharing.{IsShared}

-- what the worker shares, the command that it runs, all that it did and saw, and how many walks,
-- operations and carries it can note without memory
pub record Acting : Type 0 where
  pub shared : Shared
  pub by : Serial
  pub state : WorkerState
  pub room : ℕ
  pub use_room : ℕ
  pub carry_room : ℕ

-- the same by a worker's fields
abbrev pub acting_of : Shared → Seats → Serial → Acting
acting_of x s by = record { shared = x; by = by; state = state_of s; room = s.walks.spare; use_room = s.cache.uses.spare; carry_room = s.carries.spare }

-- the tables belong together, and the worker's seats are of them and at rest
pub record IsFit (x : Shared) (s : Seats) : Type 0 where
  pub shared : IsShared x
  pub rested : IsRested x s

-- the worker shares the same tables and runs the same command
pub record IsSame (old new : Acting) : Type 0 where
  pub shared : new.shared ≡ old.shared
  pub by : new.by ≡ old.by

-- and it noted no walk
pub record IsStill (old new : Acting) : Type 0 where
  pub shared : new.shared ≡ old.shared
  pub by : new.by ≡ old.by
  pub room : new.room ≡ old.room

-- the next walk of a worker
abbrev pub walk_of : Acting → ℕ → ℕ → ℕ → Bool → Walk
walk_of w group node priority nofs = record { by = w.by; number = length w.state.walks; group = group; node = node; priority = priority; nofs = nofs }
