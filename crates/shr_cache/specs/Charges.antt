-- SPDX-License-Identifier: GPL-2.0-only
-- What stays of a worker where nothing is charged. No public clause cites this.
use Rattle.std.specs.Prelude.{◌≡◌}
use Rattle.shr_walk.specs.Acting.{Acting}

-- the worker shares the same tables and runs the same command, and it charged and noted nothing
pub record KeepsCharge (old new : Acting) : Type 0 where
  pub shared : new.shared ≡ old.shared
  pub by : new.by ≡ old.by
  pub uses : new.state.uses ≡ old.state.uses
  pub room : new.use_room ≡ old.use_room
