-- SPDX-License-Identifier: GPL-2.0-only
use Rattle.shr_plain.proofs.SeatLaws.{like}
use Rattle.shr_plain.proofs.table.Pools.load_as.Goals as goal

pub returns : goal.returns
returns g c = record { told = record { same = like c.args.seat.now c.load.new.seat c.load.ensures.0 c.load.ensures.1; did = c.load.ensures.2 } }
