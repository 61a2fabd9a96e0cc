-- SPDX-License-Identifier: GPL-2.0-only
use Rattle.shr_core.specs.Seats.{view_of}
use Rattle.shr_trials.proofs.Calming.{calm_by, keeps_find}
use Rattle.shr_trials.proofs.calls.hold.Goals as goal

pub returns : goal.returns
returns g c = calm_by _ c.find.new.seat c.requires c.find.ensures.table (keeps_find _ (view_of c.args.seat.now) (view_of c.find.new.seat) _ _ _ c.find.result c.find.ensures.rooms c.find.ensures.answer)
