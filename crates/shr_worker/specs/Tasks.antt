-- SPDX-License-Identifier: GPL-2.0-only
-- What a worker is given, and what it leaves.
use Rattle.std.specs.Prelude.{◌≡◌, ◌<◌, [], length}
use Rattle.shr_plain.specs.Opening.{ArePoolsOf}
use Rattle.shr_walk.specs.declared.seats.Shared.{Shared}
use Rattle.shr_walk.specs.Acting.{IsFit}
use Rattle.shr_worker.specs.declared.tasks.Task.{Task}

-- the task is of a worker of the script, whose tables belong together; its seats are of them, hold
-- nothing and have noted nothing
pub record IsTask (x : Shared) (task : Task) : Type 0 where
  pub number : task.number < length x.script.workers.items
  pub fit : IsFit x task.seats
  pub uses : task.seats.cache.uses.items ≡ []
  pub walks : task.seats.walks.items ≡ []
  pub carries : task.seats.carries.items ≡ []
  pub pools : ArePoolsOf x.script task.plain.pools
  pub plain_walks : task.plain.state.walks ≡ []
