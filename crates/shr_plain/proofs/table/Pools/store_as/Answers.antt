-- SPDX-License-Identifier: GPL-2.0-only
use Rattle.shr_plain.proofs.SeatLaws.{like}
use Rattle.shr_plain.proofs.table.Pools.store_as.Goals as goal

pub returns : goal.returns
returns g c = record { told = record { same = like c.args.seat.now c.store.new.seat c.store.ensures.0 c.store.ensures.1; did = c.store.ensures.2 } }
