-- SPDX-License-Identifier: GPL-2.0-only
use Rattle.shr_core.specs.Seats.{view_of}
use Rattle.shr_trials.proofs.Calming.{calm_by, keeps_call}
use Rattle.shr_trials.proofs.calls.pin.Goals as goal

pub returns : goal.returns
returns g c = calm_by _ c.set_pin.new.seat c.requires c.set_pin.ensures.table (keeps_call _ (view_of c.args.seat.now) (view_of c.set_pin.new.seat) _ _ _ _ _ c.set_pin.result c.set_pin.ensures.answer)
