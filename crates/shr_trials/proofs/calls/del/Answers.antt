-- SPDX-License-Identifier: GPL-2.0-only
use Rattle.shr_core.specs.Seats.{view_of}
use Rattle.shr_trials.proofs.Calming.{calm_by, keeps_call}
use Rattle.shr_trials.proofs.calls.del.Goals as goal

pub returns : goal.returns
returns g c = calm_by _ c.drop_key.new.seat c.requires c.drop_key.ensures.table (keeps_call _ (view_of c.args.seat.now) (view_of c.drop_key.new.seat) _ _ _ _ _ c.drop_key.result c.drop_key.ensures.answer)
