-- SPDX-License-Identifier: GPL-2.0-only
use Rattle.shr_audit_pools.proofs.Common.{take, AreStocksOf}
use Rattle.shr_audit_pools.proofs.stock.stocks_of.Given as goal

abbrev pub invariant-loop-units : goal.invariant-loop-units
invariant-loop-units l = AreStocksOf (take l.units-index l.units-items) l.stocks.items
