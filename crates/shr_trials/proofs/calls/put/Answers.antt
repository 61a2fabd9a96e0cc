-- SPDX-License-Identifier: GPL-2.0-only
use Rattle.shr_core.specs.Seats.{view_of}
use Rattle.shr_trials.proofs.Calming.{calm_by, keeps_call}
use Rattle.shr_trials.proofs.calls.put.Goals as goal

pub returns : goal.returns
returns g c = calm_by _ c.add.new.seat c.requires c.add.ensures.table (keeps_call _ (view_of c.args.seat.now) (view_of c.add.new.seat) _ _ _ _ _ c.add.result c.add.ensures.answer)
