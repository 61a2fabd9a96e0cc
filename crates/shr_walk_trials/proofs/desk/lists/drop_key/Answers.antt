-- SPDX-License-Identifier: GPL-2.0-only
use Rattle.shr_core.specs.Seats.{view_of}
use Rattle.shr_walk_trials.proofs.Seating.{holder_still, kept_call}
use Rattle.shr_walk_trials.proofs.desk.lists.drop_key.Goals as goal

pub rest-requires : goal.rest-requires
rest-requires g c = holder_still c.worker.inside.shared.now c.args.place c.hold.new.seats c.drop_key-answer.new.seat c.in_ok-hold.ensures.held c.drop_key-answer.ensures.table
    (kept_call _ (view_of c.hold.new.seats.cache.core) (view_of c.drop_key-answer.new.seat) _ _ _ _ _ c.drop_key-answer.result c.drop_key-answer.ensures.answer)
