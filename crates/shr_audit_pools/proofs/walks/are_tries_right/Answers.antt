-- SPDX-License-Identifier: GPL-2.0-only
use Rattle.shr_audit_pools.specs.Passes.{IsTryRight}
use Rattle.shr_audit_pools.proofs.Tried.{tries_whole, try_step}
use Rattle.shr_audit_pools.proofs.walks.are_tries_right.Goals as goal

pub loop-pool-preserved : goal.loop-pool-preserved
loop-pool-preserved c =
    try_step c.args.script.now c.args.report.now c.args.worker c.args.n c.args.walk.now c.as_slice-decls.result.now c.as_slice-tries.result.now c.loop-pool.pool c.index-decls-pool.result _ c.home_of-place.result c.as_slice-decls.ensures c.as_slice-tries.ensures c.requires.few
    c.loop-pool-test.true c.index-decls-pool.is c.home_of-place.ensures.home c.loop-pool.invariant (c.is_try_right.ensures.0 c.if-not-is_try_right.false)

pub returns : goal.returns
returns c =
    let s = c.args.script.now in
    let r = c.args.report.now in
    tries_whole s c.args.walk.now (λ pool place d x. IsTryRight r c.args.worker c.args.n c.args.walk.now pool place d x) c.as_slice-decls.result.now c.as_slice-tries.result.now c.loop-pool.pool c.as_slice-decls.ensures c.as_slice-tries.ensures c.loop-pool-test.false c.loop-pool.invariant
