-- SPDX-License-Identifier: GPL-2.0-only
use Rattle.shr_audit_passes.proofs.Common.{ℕ, WorkerPart, more_at, IsPartTold}
use Rattle.shr_audit_passes.proofs.Answered.{stands_here, told_all, told_fails}
use Rattle.shr_audit_passes.proofs.commands.are_told.Goals as goal

pub is_part_told-requires-clause-stand : goal.is_part_told-requires-clause-stand
is_part_told-requires-clause-stand c = stands_here c.args.report.now c.as_slice-parts.result.now c.loop-worker.worker c.index-parts-worker.result c.requires.well c.as_slice-parts.ensures c.loop-worker-test.true c.index-parts-worker.is

pub returns-then-not-is_part_told : goal.returns-then-not-is_part_told
returns-then-not-is_part_told c =
    told_fails c.args.script.now c.args.report.now c.as_slice-parts.result.now c.loop-worker.worker c.index-parts-worker.result c.is_part_told.result c.requires.well c.as_slice-parts.ensures c.loop-worker-test.true c.index-parts-worker.is
    c.is_part_told.ensures c.if-not-is_part_told.true

pub loop-worker-preserved : goal.loop-worker-preserved
loop-worker-preserved c =
    more_at (λ (k : ℕ) (x : WorkerPart). IsPartTold c.args.script.now k x) c.as_slice-parts.result.now c.loop-worker.worker c.index-parts-worker.result c.loop-worker-test.true c.index-parts-worker.is c.loop-worker.invariant
    (c.is_part_told.ensures.0 c.if-not-is_part_told.false)

pub returns : goal.returns
returns c = told_all c.args.script.now c.args.report.now c.as_slice-parts.result.now c.loop-worker.worker c.requires.well c.as_slice-parts.ensures c.loop-worker-test.false c.loop-worker.invariant
