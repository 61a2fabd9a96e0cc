-- SPDX-License-Identifier: GPL-2.0-only
use Rattle.shr_plain.proofs.SeatLaws.{like}
use Rattle.shr_plain.proofs.table.Pools.lock_as.Goals as goal

pub returns : goal.returns
returns g c = record { told = record { same = like c.args.seat.now c.compare_exchange.new.seat c.compare_exchange.ensures.0 c.compare_exchange.ensures.1; did = c.compare_exchange.ensures.2 } }
