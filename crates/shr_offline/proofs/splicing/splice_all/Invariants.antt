-- SPDX-License-Identifier: GPL-2.0-only
use Rattle.shr_offline.proofs.Common.{◌≡◌, ◌*◌, ◌≤◌, None, view_of, shape_of, AreSpliced, first_places, no_rooms}
use Rattle.shr_offline.proofs.splicing.splice_all.Given as goal

abbrev pub invariant-loop-place : goal.invariant-loop-place
invariant-loop-place g l = record {
  table : l.seat.core ≡ l.fn.seat.core;
  rooms : (view_of l.seat).holding ≡ no_rooms;
  owner : (view_of l.seat).claims.owner ≡ None;
  few : l.moved ≤ l.place * 20000;
  spliced : AreSpliced (shape_of l.fn.seat.core) (first_places (shape_of l.fn.seat.core) l.fn.group l.place) l.moved (view_of l.fn.seat) (view_of l.seat);
}
