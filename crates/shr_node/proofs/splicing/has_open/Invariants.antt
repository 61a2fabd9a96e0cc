-- SPDX-License-Identifier: GPL-2.0-only
use Rattle.shr_node.proofs.Common.{◌≡◌, ℕ, ◌<◌, [], slice_index, view_of, place_number, group_place, Gains, KnowsClosed}
use Rattle.shr_node.proofs.splicing.has_open.Given as goal

abbrev pub invariant-loop-at : goal.invariant-loop-at
invariant-loop-at g l = record {
  table : l.seat.core ≡ l.fn.seat.core;
  gains : Gains (view_of l.fn.seat) (view_of l.seat) [] [];
  closed : (i : ℕ) → i < l.at → KnowsClosed (view_of l.seat) (place_number (group_place l.id l.node (slice_index l.children.groups i)));
}
