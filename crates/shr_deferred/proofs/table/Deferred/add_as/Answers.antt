-- SPDX-License-Identifier: GPL-2.0-only
use Rattle.shr_deferred.proofs.SeatLaws.{like}
use Rattle.shr_deferred.proofs.table.Deferred.add_as.Goals as goal

pub returns : goal.returns
returns g c = record { told = (like c.args.seat.now c.fetch_add.new.seat c.fetch_add.ensures.0 c.fetch_add.ensures.1, (c.fetch_add.result, c.fetch_add.ensures.2)) }
