-- SPDX-License-Identifier: GPL-2.0-only
use Rattle.shr_core.specs.Seats.{view_of}
use Rattle.shr_trials.proofs.Calming.{calm_by, keeps_register}
use Rattle.shr_trials.proofs.calls.register.Goals as goal

pub returns : goal.returns
returns g c = calm_by _ c.register.new.seat c.requires c.register.ensures.table (keeps_register c.args.seat.now.core.setting (view_of c.args.seat.now) (view_of c.register.new.seat) _ _ _ c.register.result c.register.ensures.rooms c.register.ensures.answer)
