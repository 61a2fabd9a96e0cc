-- SPDX-License-Identifier: GPL-2.0-only
use Rattle.shr_audit_walks.proofs.LaterCommon.{WorkerPart, each_more, IsPartFilled}
use Rattle.shr_audit_walks.proofs.FilledLaw.{all_seen, part_fails}
use Rattle.shr_audit_walks.proofs.Standing.{stands_here}
use Rattle.shr_audit_walks.proofs.bits.are_bits_seen.Goals as goal

pub are_bits_seen_in-requires-clause-stand : goal.are_bits_seen_in-requires-clause-stand
are_bits_seen_in-requires-clause-stand c = stands_here c.args.report.now c.as_slice-parts.result.now c.loop-worker.worker c.index-parts-worker.result c.requires.well c.as_slice-parts.ensures c.loop-worker-test.true c.index-parts-worker.is

pub loop-worker-preserved : goal.loop-worker-preserved
loop-worker-preserved c = each_more (λ (part : WorkerPart). IsPartFilled c.args.case.now.parents.items c.args.report.now part) c.as_slice-parts.result.now c.loop-worker.worker c.index-parts-worker.result c.loop-worker-test.true c.index-parts-worker.is c.loop-worker.invariant
    (c.in_ok-are_bits_seen_in.ensures.0 c.if-not-branch.false)

pub returns-then-not-branch : goal.returns-then-not-branch
returns-then-not-branch c =
    part_fails c.args.script.now c.args.report.now c.args.case.now.parents.items c.as_slice-parts.result.now c.loop-worker.worker c.requires.case.parents c.as_slice-parts.ensures c.index-parts-worker.result c.in_ok-are_bits_seen_in.field-0 c.loop-worker-test.true c.index-parts-worker.is
    c.in_ok-are_bits_seen_in.ensures c.if-not-branch.true

pub returns : goal.returns
returns c = all_seen c.args.script.now c.args.report.now c.args.case.now.parents.items c.as_slice-parts.result.now c.loop-worker.worker c.requires.case.parents c.as_slice-parts.ensures c.loop-worker-test.false c.loop-worker.invariant
