-- SPDX-License-Identifier: GPL-2.0-only
use Rattle.shr_core.specs.Seats.{view_of}
use Rattle.shr_worker.proofs.Resting.{register_free, fit_with}
use Rattle.shr_worker.proofs.registrations.register.Goals as goal

pub invariant_of-worker : goal.invariant_of-worker
invariant_of-worker g c = let at = c.worker.inside in let did = c.register-answer in let free = register_free _ _ _ _ _ did.result (view_of did.new.seat) did.ensures.answer in
    fit_with at.shared.now at.seats did.new.seat c.worker.invariant did.ensures.table did.ensures.rooms free.0 free.1
