-- SPDX-License-Identifier: GPL-2.0-only
use Rattle.shr_audit_pools.proofs.DueCommon.{arith, PlainWalk}
use Rattle.shr_audit_passes.proofs.Ranged.{range_filter, none_filter}
use Rattle.shr_audit_pools.proofs.due.walks_of.Goals as goal

pub returns-then-low-high : goal.returns-then-low-high
returns-then-low-high c =
    range_filter (λ (w : PlainWalk). w.by.command) c.args.command c.args.walks.now c.first_of-low.result c.behind_of-high.result (omega arith) c.behind_of-high.ensures.within
    c.first_of-low.ensures.before c.first_of-low.ensures.behind c.behind_of-high.ensures.before c.behind_of-high.ensures.behind

pub returns-else-low-high : goal.returns-else-low-high
returns-else-low-high c =
    none_filter (λ (w : PlainWalk). w.by.command) c.args.command c.args.walks.now c.first_of-low.result c.first_of-low.ensures.within
    c.first_of-low.ensures.before (λ n x le e. c.behind_of-high.ensures.behind n x (omega arith) e)
