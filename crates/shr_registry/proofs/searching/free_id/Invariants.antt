-- SPDX-License-Identifier: GPL-2.0-only
use Rattle.shr_registry.proofs.Common.{◌≡◌, ◌-◌, lowest_idle, view_of, shape_of, pool_of, Loads, lowest_free}
use Rattle.shr_registry.proofs.searching.free_id.Given as goal

abbrev pub invariant-loop-id : goal.invariant-loop-id
invariant-loop-id l = record {
  table : l.seat.core ≡ l.fn.seat.core;
  loads : Loads (view_of l.fn.seat) (view_of l.seat);
  rest : lowest_idle (shape_of l.fn.seat.core).ids (pool_of (shape_of l.fn.seat.core) (view_of l.fn.seat)) ≡ lowest_free ((shape_of l.fn.seat.core).ids - l.id) l.id (pool_of (shape_of l.fn.seat.core) (view_of l.fn.seat));
}
