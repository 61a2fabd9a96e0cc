-- SPDX-License-Identifier: GPL-2.0-only
use Rattle.shr_node.proofs.Common.{◌≡◌, [], length, view_of, shape_of, Gains, AreLooked, IsMarked}
use Rattle.shr_node.proofs.Looks.{AreLeft}
use Rattle.shr_node.proofs.splicing.open_lists.Given as goal

abbrev pub invariant-loop-at : goal.invariant-loop-at
invariant-loop-at g l = record {
  table : l.seat.core ≡ l.fn.seat.core;
  gains : Gains (view_of l.fn.seat) (view_of l.seat) [] [];
  long : length l.opens ≡ 256;
  own : IsMarked l.opens l.group;
  looked : AreLooked (shape_of l.fn.seat.core) (view_of l.seat) l.id l.node l.group l.opens l.at;
  left : AreLeft l.opens l.at;
}
