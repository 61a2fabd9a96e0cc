-- SPDX-License-Identifier: GPL-2.0-only
use Rattle.shr_plain.proofs.Common.{◌≡◌, ◌+◌, ◌*◌, ◌≤◌, length, sum_by, All, ActsPlain, AreTried, TryHadMemory, units_freed}
use Rattle.shr_plain.proofs.table.PlainSeat.walk_pools.Given as goal

abbrev pub invariant-loop-pool : goal.invariant-loop-pool
invariant-loop-pool g l = record {
  tried : ActsPlain (AreTried l.fn.self.pools.settings.items l.fn.self.pools.sizes l.fn.walk.by l.fn.walk.number l.fn.walk.node l.fn.walk.priority 0 l.tries.items) l.fn.self l.self;
  number : length l.tries.items ≡ l.pool;
  spare : length l.fn.self.pools.settings.items ≤ l.pool + l.tries.spare;
  had : All TryHadMemory l.tries.items;
  freed : l.freed ≡ sum_by units_freed l.tries.items;
  few : l.freed ≤ 2097152 * l.pool;
}
