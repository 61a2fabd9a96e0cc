-- SPDX-License-Identifier: GPL-2.0-only
use Rattle.shr_core.specs.Seats.{shape_of, view_of}
use Rattle.shr_trials.proofs.Calming.{calm_by, keeps_unregister}
use Rattle.shr_trials.proofs.calls.unregister.Goals as goal

pub returns : goal.returns
returns g c = calm_by _ c.unregister.new.seat c.requires c.unregister.ensures.table (keeps_unregister (shape_of c.args.seat.now.core) (view_of c.args.seat.now) (view_of c.unregister.new.seat) _ _ c.unregister.result c.unregister.ensures.rooms c.unregister.ensures.answer)
