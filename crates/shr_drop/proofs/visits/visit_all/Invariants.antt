-- SPDX-License-Identifier: GPL-2.0-only
use Rattle.shr_drop.proofs.Common.{◌≡◌, ◌≤◌, place_number, Keeps, listing_of, state_of, IsSameElse, visitor_in}
use Rattle.shr_drop.proofs.Turning.{AreSoFar}
use Rattle.shr_drop.proofs.visits.visit_all.Given as goal

abbrev pub invariant-loop-visits : goal.invariant-loop-visits
invariant-loop-visits g l = record {
  kept : let a = listing_of l.fn.lister in Keeps a.shared (place_number a.place) a.walk a.by a.policy l.fn.seats.cache l.seats.cache;
  same : IsSameElse l.fn.seats l.seats;
  visited : let a = listing_of l.fn.lister in AreSoFar a.shared (visitor_in a) l.visits l.freed (state_of l.fn.seats) (state_of l.seats);
  within : l.visits ≤ l.budget;
  lister : l.lister ≡ l.fn.lister;
  budget : l.budget ≡ l.fn.budget;
}
