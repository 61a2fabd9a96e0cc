-- SPDX-License-Identifier: GPL-2.0-only
use Rattle.shr_audit_pools.proofs.DueCommon.{ℕ, WorkerPart, more_at, IsPartDue}
use Rattle.shr_audit_pools.proofs.Dues.{due_all, due_fails, stands_here}
use Rattle.shr_audit_pools.proofs.due.are_walks_due.Goals as goal

pub is_part_due-requires : goal.is_part_due-requires
is_part_due-requires c = stands_here c.args.report.now c.as_slice-parts.result.now c.loop-worker.worker c.index-parts-worker.result c.requires c.as_slice-parts.ensures c.loop-worker-test.true c.index-parts-worker.is

pub returns-then-not-is_part_due : goal.returns-then-not-is_part_due
returns-then-not-is_part_due c =
    due_fails c.args.script.now c.args.report.now c.as_slice-parts.result.now c.loop-worker.worker c.index-parts-worker.result c.is_part_due.result c.requires c.as_slice-parts.ensures c.loop-worker-test.true c.index-parts-worker.is
    c.is_part_due.ensures c.if-not-is_part_due.true

pub loop-worker-preserved : goal.loop-worker-preserved
loop-worker-preserved c =
    more_at (λ (k : ℕ) (x : WorkerPart). IsPartDue c.args.script.now k x) c.as_slice-parts.result.now c.loop-worker.worker c.index-parts-worker.result c.loop-worker-test.true c.index-parts-worker.is c.loop-worker.invariant
    (c.is_part_due.ensures.0 c.if-not-is_part_due.false)

pub returns : goal.returns
returns c = due_all c.args.script.now c.args.report.now c.as_slice-parts.result.now c.loop-worker.worker c.requires c.as_slice-parts.ensures c.loop-worker-test.false c.loop-worker.invariant
