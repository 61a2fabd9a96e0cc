-- SPDX-License-Identifier: GPL-2.0-only
use Rattle.shr_core.specs.Seats.{view_of}
use Rattle.shr_trials.proofs.Calming.{calm_by, keeps_splice}
use Rattle.shr_trials.proofs.calls.close.Goals as goal

pub returns : goal.returns
returns g c = calm_by _ c.splice.new.seat c.requires c.splice.ensures.table (keeps_splice _ (view_of c.args.seat.now) (view_of c.splice.new.seat) _ _ _ c.splice.result c.splice.ensures.answer)
