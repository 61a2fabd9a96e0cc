-- SPDX-License-Identifier: GPL-2.0-only
use Rattle.std.proofs.Common.{refl, arith}
use Rattle.shr_walk_trials.proofs.Faking.{holder_visited, holder_ready, holder_inside, fake_visits}
use Rattle.shr_walk_trials.proofs.visits.visit.Goals as goal

pub visit-outcome-requires : goal.visit-outcome-requires
visit-outcome-requires g c κs = let x = c.worker.inside.shared.now in let place = c.place_of-place.result in let s = c.hold.new.seats in let h = c.in_ok-number.ensures.held in let high = c.if-priority-gt12.false in (
  (refl, tt),
  (holder_inside x place s h, ((omega (arith, high), omega arith), (holder_ready x place s h, fake_visits x place s h))),
)

pub rest-requires : goal.rest-requires
rest-requires g c = let v = c.visit-outcome.ensures in holder_visited c.worker.inside.shared.now c.place_of-place.result c.hold.new.seats c.visit-outcome.new.seats c.in_ok-number.ensures.held v.ready v.moved.deferred v.owed
