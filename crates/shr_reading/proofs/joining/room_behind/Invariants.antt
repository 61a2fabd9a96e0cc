-- SPDX-License-Identifier: GPL-2.0-only
use Rattle.std.proofs.Common.{◌≡◌, ◌+◌, take, map, length}
use Rattle.std.specs.Prelude.{sum_by}
use Rattle.shr_reading.proofs.joining.room_behind.Given as goal

abbrev pub invariant-loop-worker : goal.invariant-loop-worker
invariant-loop-worker l = l.left + sum_by length (take l.worker-index (map (λ w. w.commands.items) l.workers)) ≡ l.room
