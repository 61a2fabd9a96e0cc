-- SPDX-License-Identifier: GPL-2.0-only
use Rattle.shr_node.proofs.Common.{◌≡◌, ◌≤◌, groups_in, view_of, shape_of, AreLooked}
use Rattle.shr_node.proofs.Splices.{IsSplicing}
use Rattle.shr_node.proofs.splicing.splice_open.Given as goal

abbrev pub invariant-splicing : goal.invariant-splicing
invariant-splicing g l = record {
  table : l.seat.core ≡ l.fn.seat.core;
  there : l.at ≤ groups_in (shape_of l.fn.seat.core);
  above : l.group ≤ l.at;
  looked : AreLooked (shape_of l.fn.seat.core) (view_of l.seat) l.id l.node l.group l.opens (groups_in (shape_of l.fn.seat.core));
  splices : IsSplicing (shape_of l.fn.seat.core) (view_of l.fn.seat) (view_of l.seat) l.id l.node l.group l.opens l.at l.moved;
}

abbrev pub decreases-splicing : goal.decreases-splicing
decreases-splicing g l = l.at
