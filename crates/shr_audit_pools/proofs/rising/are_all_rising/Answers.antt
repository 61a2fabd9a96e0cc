-- SPDX-License-Identifier: GPL-2.0-only
use Rattle.shr_audit_pools.proofs.Common.{ℕ, List, subst, WorkerPart, more_at, Decides, Answered, AreCitesRising, item_fails, items_whole}
use Rattle.shr_audit_pools.proofs.rising.are_all_rising.Goals as goal

pub returns-then-not-branch : goal.returns-then-not-branch
returns-then-not-branch c =
    item_fails (λ (k : ℕ) (part : WorkerPart). AreCitesRising part.answers.items) c.as_slice-parts.result.now c.args.report.now.workers.items c.loop-worker.worker c.index-parts-worker.result c.in_ok-are_rising.field-0 c.as_slice-parts.ensures c.loop-worker-test.true c.index-parts-worker.is
    (subst (λ (xs : List Answered). Decides c.in_ok-are_rising.field-0 (AreCitesRising xs)) c.as_slice.ensures c.in_ok-are_rising.ensures) c.if-not-branch.true

pub loop-worker-preserved : goal.loop-worker-preserved
loop-worker-preserved c =
    more_at (λ (k : ℕ) (part : WorkerPart). AreCitesRising part.answers.items) c.as_slice-parts.result.now c.loop-worker.worker c.index-parts-worker.result c.loop-worker-test.true c.index-parts-worker.is c.loop-worker.invariant
    ((subst (λ (xs : List Answered). Decides c.in_ok-are_rising.field-0 (AreCitesRising xs)) c.as_slice.ensures c.in_ok-are_rising.ensures).0 c.if-not-branch.false)

pub returns : goal.returns
returns c = items_whole (λ (k : ℕ) (part : WorkerPart). AreCitesRising part.answers.items) c.as_slice-parts.result.now c.args.report.now.workers.items c.loop-worker.worker c.as_slice-parts.ensures c.loop-worker-test.false c.loop-worker.invariant
