-- SPDX-License-Identifier: GPL-2.0-only
use Rattle.shr_audit_pools.proofs.Common.{◌≡◌, ℕ, List, Some, slice_get, true, false, subst, Decides, WorkerPart, PlainWalk, more_at, IsPlainLawful, item_fails, items_whole, each_plain_of}
use Rattle.shr_audit_pools.proofs.walks.are_walks_lawful.Goals as goal

pub returns-then-not-are_plain_lawful : goal.returns-then-not-are_plain_lawful
returns-then-not-are_plain_lawful c =
    each_plain_of c.args.report.now (IsPlainLawful c.args.script.now c.args.report.now) false (item_fails (λ (k : ℕ) (part : WorkerPart). (n : ℕ) (w : PlainWalk) → slice_get part.plain.items n ≡ Some w → IsPlainLawful c.args.script.now c.args.report.now k n w) c.as_slice-parts.result.now c.args.report.now.workers.items c.loop-worker.worker c.index-parts-worker.result c.are_plain_lawful.result c.as_slice-parts.ensures c.loop-worker-test.true c.index-parts-worker.is
    (subst (λ (ws : List PlainWalk). Decides c.are_plain_lawful.result ((n : ℕ) (w : PlainWalk) → slice_get ws n ≡ Some w → IsPlainLawful c.args.script.now c.args.report.now c.loop-worker.worker n w)) c.as_slice.ensures c.are_plain_lawful.ensures) c.if-not-are_plain_lawful.true)

pub loop-worker-preserved : goal.loop-worker-preserved
loop-worker-preserved c =
    more_at (λ (k : ℕ) (part : WorkerPart). (n : ℕ) (w : PlainWalk) → slice_get part.plain.items n ≡ Some w → IsPlainLawful c.args.script.now c.args.report.now k n w) c.as_slice-parts.result.now c.loop-worker.worker c.index-parts-worker.result c.loop-worker-test.true c.index-parts-worker.is c.loop-worker.invariant
    ((subst (λ (ws : List PlainWalk). Decides c.are_plain_lawful.result ((n : ℕ) (w : PlainWalk) → slice_get ws n ≡ Some w → IsPlainLawful c.args.script.now c.args.report.now c.loop-worker.worker n w)) c.as_slice.ensures c.are_plain_lawful.ensures).0 c.if-not-are_plain_lawful.false)

pub returns : goal.returns
returns c = each_plain_of c.args.report.now (IsPlainLawful c.args.script.now c.args.report.now) true (items_whole (λ (k : ℕ) (part : WorkerPart). (n : ℕ) (w : PlainWalk) → slice_get part.plain.items n ≡ Some w → IsPlainLawful c.args.script.now c.args.report.now k n w) c.as_slice-parts.result.now c.args.report.now.workers.items c.loop-worker.worker c.as_slice-parts.ensures c.loop-worker-test.false c.loop-worker.invariant)
