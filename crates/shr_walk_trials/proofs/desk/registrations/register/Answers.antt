-- SPDX-License-Identifier: GPL-2.0-only
use Rattle.shr_core.specs.Seats.{view_of}
use Rattle.shr_walk_trials.proofs.Seating.{seated, leaves_register}
use Rattle.shr_walk_trials.proofs.desk.registrations.register.Goals as goal

pub invariant_of-worker : goal.invariant_of-worker
invariant_of-worker g c = let s = c.worker.inside.seats in
    seated c.worker.inside.shared.now s c.register.new.seat c.worker.invariant c.register.ensures.table
    (leaves_register s.cache.core.core.setting (view_of s.cache.core) (view_of c.register.new.seat) _ _ _ c.register.result c.register.ensures.rooms c.register.ensures.answer)
