-- SPDX-License-Identifier: GPL-2.0-only
use Rattle.shr_audit_pools.proofs.Common.{units_journal, named_place}
use Rattle.shr_audit_pools.proofs.Stocked.{stock_at}
use Rattle.shr_audit_pools.proofs.stock.reclaims_at.Goals as goal

pub of_walk-requires-clause-stand : goal.of_walk-requires-clause-stand
of_walk-requires-clause-stand c = (stock_at c.args.report.now c.as_slice.result.now c.args.stocks.now (named_place c.args.place) c.in-Some.k c.index-stocks-k.result c.as_slice.ensures c.requires.stocks c.in-Some.ensures.within c.in-Some.ensures.some c.index-stocks-k.is).reclaims.stand

pub returns-in-Some : goal.returns-in-Some
returns-in-Some c = c.of_walk.ensures (units_journal c.args.report.now (named_place c.args.place)) (stock_at c.args.report.now c.as_slice.result.now c.args.stocks.now (named_place c.args.place) c.in-Some.k c.index-stocks-k.result c.as_slice.ensures c.requires.stocks c.in-Some.ensures.within c.in-Some.ensures.some c.index-stocks-k.is)
