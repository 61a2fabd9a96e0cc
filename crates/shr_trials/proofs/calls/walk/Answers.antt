-- SPDX-License-Identifier: GPL-2.0-only
use Rattle.shr_core.specs.Seats.{view_of}
use Rattle.shr_trials.proofs.Calming.{calm_by, keeps_scan}
use Rattle.shr_trials.proofs.calls.walk.Goals as goal

pub returns : goal.returns
returns g c = calm_by _ c.scan.new.seat c.requires c.scan.ensures.table (keeps_scan _ (view_of c.args.seat.now) (view_of c.scan.new.seat) _ _ _ _ _ c.scan.result c.scan.ensures.answer)
