-- SPDX-License-Identifier: GPL-2.0-only
use Rattle.std.proofs.Common.{false}
use Rattle.shr_core.specs.Seats.{view_of}
use Rattle.shr_walk_trials.proofs.Seating.{holder_still, kept_call}
use Rattle.shr_walk_trials.proofs.desk.lists.add.Goals as goal

pub rest-requires : goal.rest-requires
rest-requires g c = holder_still c.worker.inside.shared.now c.args.place c.hold.new.seats c.add-answer.new.seat c.in_ok-hold.ensures.held c.add-answer.ensures.table
    (kept_call _ (view_of c.hold.new.seats.cache.core) (view_of c.add-answer.new.seat) _ _ _ _ _ c.add-answer.result c.add-answer.ensures.answer)
