-- SPDX-License-Identifier: GPL-2.0-only
use Rattle.shr_audit_tables.proofs.Common.{take, sum_by, WorkerPart, gains_more, given_by_worker, taken_by}
use Rattle.shr_audit_tables.proofs.Steps.{sum_item}
use Rattle.shr_audit_tables.proofs.deferred.note_parts.Goals as goal

pub loop-part-preserved : goal.loop-part-preserved
loop-part-preserved c =
    let i = c.loop-part.part-index in
    let parents = c.args.parents.now in
    let parts = c.args.parts.now in
    let part = c.part-item.result in
    gains_more (λ p. sum_by (λ (x : WorkerPart). given_by_worker parents x p) (take i parts)) (λ p. sum_by (λ (x : WorkerPart). taken_by x p) (take i parts)) (given_by_worker parents part) (taken_by part) _ _ _ _ _ c.loop-part.invariant c.in_ok-note_part.ensures
    (λ p. sum_item (λ (x : WorkerPart). given_by_worker parents x p) parts i part c.loop-part-test.true c.part-item.is) (λ p. sum_item (λ (x : WorkerPart). taken_by x p) parts i part c.loop-part-test.true c.part-item.is)
