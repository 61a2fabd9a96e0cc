-- SPDX-License-Identifier: GPL-2.0-only
use Rattle.shr_audit_pools.proofs.Common.{ℕ, WorkerPart, more_at, IsPartVersed, item_fails, items_whole, here_at, parts_of}
use Rattle.shr_audit_pools.proofs.Dues.{stands_here}
use Rattle.shr_audit_pools.proofs.versions.are_all_versed.Goals as goal

pub is_part_versed-requires-clause-stand : goal.is_part_versed-requires-clause-stand
is_part_versed-requires-clause-stand c = stands_here c.args.report.now c.as_slice-parts.result.now c.loop-worker.worker c.index-parts-worker.result c.requires.well c.as_slice-parts.ensures c.loop-worker-test.true c.index-parts-worker.is

pub is_part_versed-requires-clause-own : goal.is_part_versed-requires-clause-own
is_part_versed-requires-clause-own c = λ n w at_n.
    let here = here_at c.as_slice-parts.result.now c.args.report.now.workers.items c.loop-worker.worker c.index-parts-worker.result c.as_slice-parts.ensures c.loop-worker-test.true c.index-parts-worker.is in
    ((parts_of c.args.report.now c.requires.well c.loop-worker.worker c.index-parts-worker.result here).1.1.1.0 n w at_n).1

pub is_part_versed-requires-clause-few : goal.is_part_versed-requires-clause-few
is_part_versed-requires-clause-few c =
    c.requires.few c.loop-worker.worker c.index-parts-worker.result (here_at c.as_slice-parts.result.now c.args.report.now.workers.items c.loop-worker.worker c.index-parts-worker.result c.as_slice-parts.ensures c.loop-worker-test.true c.index-parts-worker.is)

pub returns-then-not-branch : goal.returns-then-not-branch
returns-then-not-branch c =
    item_fails (λ (k : ℕ) (part : WorkerPart). IsPartVersed c.args.script.now part) c.as_slice-parts.result.now c.args.report.now.workers.items c.loop-worker.worker c.index-parts-worker.result c.in_ok-is_part_versed.field-0 c.as_slice-parts.ensures c.loop-worker-test.true c.index-parts-worker.is
    c.in_ok-is_part_versed.ensures c.if-not-branch.true

pub loop-worker-preserved : goal.loop-worker-preserved
loop-worker-preserved c =
    more_at (λ (k : ℕ) (part : WorkerPart). IsPartVersed c.args.script.now part) c.as_slice-parts.result.now c.loop-worker.worker c.index-parts-worker.result c.loop-worker-test.true c.index-parts-worker.is c.loop-worker.invariant
    (c.in_ok-is_part_versed.ensures.0 c.if-not-branch.false)

pub returns : goal.returns
returns c = items_whole (λ (k : ℕ) (part : WorkerPart). IsPartVersed c.args.script.now part) c.as_slice-parts.result.now c.args.report.now.workers.items c.loop-worker.worker c.as_slice-parts.ensures c.loop-worker-test.false c.loop-worker.invariant
