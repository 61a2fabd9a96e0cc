-- SPDX-License-Identifier: GPL-2.0-only
use Rattle.shr_registry.proofs.Common.{◌≡◌, view_of, Loads}
use Rattle.shr_registry.proofs.draining.settle.Given as goal

abbrev pub invariant-loop : goal.invariant-loop
invariant-loop g l = record {
  can_next : (goal.iterator-loop g).can_next l.iterator';
  finished : (goal.iterator-loop g).is_finite l.iterator';
  table : l.seat.core ≡ l.fn.seat.core;
  loads : Loads (view_of l.fn.seat) (view_of l.seat);
}
