-- SPDX-License-Identifier: GPL-2.0-only
use Rattle.shr_audit_pools.proofs.Stocked.{stocks_more}
use Rattle.shr_audit_pools.proofs.stock.stocks_of.Goals as goal

pub loop-units-preserved : goal.loop-units-preserved
loop-units-preserved c =
    stocks_more c.as_slice-units-items.result.now c.loop-units.units-index c.units-item.result c.as_slice.result.now c.loop-units.stocks.items c.push.new.self.items c.in_ok-stock.stock c.loop-units-test.true c.units-item.is c.as_slice.ensures c.in_ok-push.ensures.items c.in_ok-stock.ensures c.loop-units.invariant
