-- SPDX-License-Identifier: GPL-2.0-only
use Rattle.shr_audit_pools.proofs.Common.{gains_as, gains_more, pass_next, nr_of}
use Rattle.shr_audit_pools.proofs.Moving.{moved_here, tried_all, tried_to}
use Rattle.shr_audit_pools.proofs.deferred.note_walk.Goals as goal

pub loop-pool-preserved : goal.loop-pool-preserved
loop-pool-preserved c =
    let s = c.args.script.now in
    let w = c.args.walk.now in
    let tries = c.as_slice-tries.result.now in
    let i = c.loop-pool.pool in
    gains_more (λ p. tried_to pass_next s p w i) (λ p. tried_to nr_of s p w i) _ _ _ _ _ _ _ c.loop-pool.invariant c.in_ok-note_try.ensures
    (λ p. moved_here pass_next s p w tries i _ c.home_of-place.result c.home_of-place.ensures.home c.as_slice-tries.ensures c.loop-pool-test.true)
    (λ p. moved_here nr_of s p w tries i _ c.home_of-place.result c.home_of-place.ensures.home c.as_slice-tries.ensures c.loop-pool-test.true)

pub returns : goal.returns
returns c =
    let s = c.args.script.now in
    let w = c.args.walk.now in
    gains_as _ _ _ _ _ _ c.loop-pool.invariant (λ p. tried_all pass_next s p w c.as_slice-tries.result.now c.loop-pool.pool c.as_slice-tries.ensures c.loop-pool-test.false)
    (λ p. tried_all nr_of s p w c.as_slice-tries.result.now c.loop-pool.pool c.as_slice-tries.ensures c.loop-pool-test.false)
