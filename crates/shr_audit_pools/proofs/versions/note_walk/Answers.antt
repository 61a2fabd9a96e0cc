-- SPDX-License-Identifier: GPL-2.0-only
use Rattle.shr_audit_pools.proofs.Versed.{tries_all, tries_step}
use Rattle.shr_audit_pools.proofs.versions.note_walk.Goals as goal

pub loop-pool-preserved : goal.loop-pool-preserved
loop-pool-preserved c =
    tries_step c.args.script.now c.args.walk.now c.as_slice-tries.result.now c.loop-pool.pool c.version_in.result _ c.home_of-place.result c.args.lows.now c.loop-pool.lows c.raise.new.lows c.as_slice-tries.ensures c.loop-pool-test.true c.home_of-place.ensures.home c.home_of-place.ensures.small c.version_in.ensures
    c.loop-pool.invariant c.in_ok-raise.ensures

pub returns : goal.returns
returns c = tries_all c.args.script.now c.args.walk.now c.as_slice-tries.result.now c.loop-pool.pool c.args.lows.now c.loop-pool.lows c.as_slice-tries.ensures c.loop-pool-test.false c.loop-pool.auto.pool-end c.loop-pool.invariant
