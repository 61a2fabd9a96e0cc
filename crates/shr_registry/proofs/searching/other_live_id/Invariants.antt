-- SPDX-License-Identifier: GPL-2.0-only
use Rattle.shr_registry.proofs.Common.{◌≡◌, false, view_of, shape_of, pool_of, Loads, is_live_below}
use Rattle.shr_registry.proofs.searching.other_live_id.Given as goal

abbrev pub invariant-loop-id : goal.invariant-loop-id
invariant-loop-id l = record {
  table : l.seat.core ≡ l.fn.seat.core;
  loads : Loads (view_of l.fn.seat) (view_of l.seat);
  none : is_live_below l.decl l.id (pool_of (shape_of l.fn.seat.core) (view_of l.fn.seat)) ≡ false;
}
