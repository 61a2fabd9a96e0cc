-- SPDX-License-Identifier: GPL-2.0-only
use Rattle.shr_core.specs.Seats.{view_of}
use Rattle.shr_trials.proofs.Calming.{calm_by, keeps_call}
use Rattle.shr_trials.proofs.calls.get.Goals as goal

pub returns : goal.returns
returns g c = calm_by _ c.look.new.seat c.requires c.look.ensures.table (keeps_call _ (view_of c.args.seat.now) (view_of c.look.new.seat) _ _ _ _ _ c.look.result c.look.ensures.answer)
