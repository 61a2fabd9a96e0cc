-- SPDX-License-Identifier: GPL-2.0-only
use Rattle.shr_audit_pools.proofs.Common.{sum_by, take, refl, gains_as, gains_more, moved_by_worker, pass_next, nr_of, sum_item}
use Rattle.shr_audit_pools.proofs.Moving.{sum_all}
use Rattle.shr_audit_pools.proofs.deferred.note_parts.Goals as goal

pub loop-part-preserved : goal.loop-part-preserved
loop-part-preserved c =
    let s = c.args.script.now in
    let parts = c.args.parts.now in
    let i = c.loop-part.part-index in
    let part = c.part-item.result in
    gains_more (λ p. sum_by (moved_by_worker pass_next s p) (take i parts)) (λ p. sum_by (moved_by_worker nr_of s p) (take i parts)) (λ p. moved_by_worker pass_next s p part) (λ p. moved_by_worker nr_of s p part) _ _ _ _ _ c.loop-part.invariant c.in_ok-note_part.ensures
    (λ p. sum_item (moved_by_worker pass_next s p) parts i part c.loop-part-test.true c.part-item.is) (λ p. sum_item (moved_by_worker nr_of s p) parts i part c.loop-part-test.true c.part-item.is)

pub returns : goal.returns
returns c =
    let s = c.args.script.now in
    gains_as _ _ _ _ _ _ c.loop-part.invariant (λ p. sum_all (moved_by_worker pass_next s p) c.args.parts.now c.args.parts.now c.loop-part.part-index refl c.loop-part-test.false)
    (λ p. sum_all (moved_by_worker nr_of s p) c.args.parts.now c.args.parts.now c.loop-part.part-index refl c.loop-part-test.false)
