-- SPDX-License-Identifier: GPL-2.0-only
use Rattle.shr_deferred.proofs.SeatLaws.{like}
use Rattle.shr_deferred.proofs.table.Deferred.swap_as.Goals as goal

pub returns : goal.returns
returns g c = record { told = (like c.args.seat.now c.swap.new.seat c.swap.ensures.0 c.swap.ensures.1, c.swap.ensures.2) }
