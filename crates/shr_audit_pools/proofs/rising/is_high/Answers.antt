-- SPDX-License-Identifier: GPL-2.0-only
use Rattle.shr_audit_pools.proofs.Common.{arith, nat_tests}
use Rattle.shr_audit_pools.proofs.Risen.{high_some}
use Rattle.shr_audit_pools.proofs.rising.is_high.Goals as goal

pub returns-in-Some-clause-high : goal.returns-in-Some-clause-high
returns-in-Some-clause-high c =
    high_some c.args.lows.now c.args.reply.now c.in-Some.cite c.low_at.result _ c.in-Some.ensures.asked c.in-Some.ensures.small c.low_at.ensures (grind (arith, nat_tests), grind (arith, nat_tests))
