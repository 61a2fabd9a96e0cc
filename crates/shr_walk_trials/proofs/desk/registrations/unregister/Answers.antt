-- SPDX-License-Identifier: GPL-2.0-only
use Rattle.shr_core.specs.Seats.{shape_of, view_of}
use Rattle.shr_walk_trials.proofs.Seating.{seated, leaves_unregister}
use Rattle.shr_walk_trials.proofs.desk.registrations.unregister.Goals as goal

pub invariant_of-worker : goal.invariant_of-worker
invariant_of-worker g c = let s = c.worker.inside.seats in
    seated c.worker.inside.shared.now s c.unregister.new.seat c.worker.invariant c.unregister.ensures.table
    (leaves_unregister (shape_of s.cache.core.core) (view_of s.cache.core) (view_of c.unregister.new.seat) _ _ c.unregister.result c.unregister.ensures.rooms c.unregister.ensures.answer)
