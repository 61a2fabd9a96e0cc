-- SPDX-License-Identifier: GPL-2.0-only
use Rattle.shr_audit_pools.proofs.Common.{sum_by, take, gains_as, gains_more, moved_at, pass_next, nr_of, sum_item}
use Rattle.shr_audit_pools.proofs.Moving.{sum_all}
use Rattle.shr_audit_pools.proofs.deferred.note_part.Goals as goal

pub loop-walk-preserved : goal.loop-walk-preserved
loop-walk-preserved c =
    let s = c.args.script.now in
    let walks = c.as_slice-walk-items.result.now in
    let i = c.loop-walk.walk-index in
    let w = c.walk-item.result in
    gains_more (λ p. sum_by (moved_at pass_next s p) (take i walks)) (λ p. sum_by (moved_at nr_of s p) (take i walks)) (λ p. moved_at pass_next s p w) (λ p. moved_at nr_of s p w) _ _ _ _ _ c.loop-walk.invariant c.in_ok-note_walk.ensures
    (λ p. sum_item (moved_at pass_next s p) walks i w c.loop-walk-test.true c.walk-item.is) (λ p. sum_item (moved_at nr_of s p) walks i w c.loop-walk-test.true c.walk-item.is)

pub returns : goal.returns
returns c =
    let s = c.args.script.now in
    gains_as _ _ _ _ _ _ c.loop-walk.invariant (λ p. sum_all (moved_at pass_next s p) c.as_slice-walk-items.result.now c.args.part.now.plain.items c.loop-walk.walk-index c.as_slice-walk-items.ensures c.loop-walk-test.false)
    (λ p. sum_all (moved_at nr_of s p) c.as_slice-walk-items.result.now c.args.part.now.plain.items c.loop-walk.walk-index c.as_slice-walk-items.ensures c.loop-walk-test.false)
