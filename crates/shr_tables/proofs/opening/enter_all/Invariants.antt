-- SPDX-License-Identifier: GPL-2.0-only
use Rattle.shr_tables.proofs.Common.{◌≡◌, [], length, take, opener, view_of, AreEntered, HasEntered}
use Rattle.shr_core.specs.Gained.{IsIdle}
use Rattle.shr_seats.specs.Standing.{at_first}
use Rattle.shr_tables.proofs.First.{on_count}
use Rattle.shr_tables.proofs.opening.enter_all.Given as goal

abbrev pub invariant-loop-decl : goal.invariant-loop-decl
invariant-loop-decl g l = record {
  shared : l.shared ≡ l.fn.shared;
  caches : l.caches ≡ l.fn.shared.script.caches.items;
  table : l.seat.core ≡ l.fn.shared.core;
  idle : IsIdle (view_of l.seat);
  standing : (view_of l.seat).standing ≡ at_first;
  untried : (view_of l.seat).claims.attempts ≡ [];
  lower : HasEntered l.decl (view_of l.seat);
  count : length (view_of l.seat).turns.known ≡ on_count (take l.decl l.fn.shared.script.caches.items);
  entered : AreEntered l.fn.shared.script.caches.items l.decl opener (view_of l.seat);
}
