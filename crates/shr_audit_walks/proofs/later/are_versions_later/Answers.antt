-- SPDX-License-Identifier: GPL-2.0-only
use Rattle.shr_audit_walks.proofs.LaterCommon.{each_more, IsPartLater}
use Rattle.shr_audit_walks.proofs.LaterLaw.{all_later, part_fails}
use Rattle.shr_audit_walks.proofs.Standing.{stands_here}
use Rattle.shr_audit_walks.proofs.later.are_versions_later.Goals as goal

pub are_later_in-requires : goal.are_later_in-requires
are_later_in-requires c = stands_here c.args.report.now c.as_slice-parts.result.now c.loop-worker.worker c.index-parts-worker.result c.requires c.as_slice-parts.ensures c.loop-worker-test.true c.index-parts-worker.is

pub loop-worker-preserved : goal.loop-worker-preserved
loop-worker-preserved c = each_more IsPartLater c.as_slice-parts.result.now c.loop-worker.worker c.index-parts-worker.result c.loop-worker-test.true c.index-parts-worker.is c.loop-worker.invariant (c.in_ok-are_later_in.ensures.0 c.if-not-branch.false)

pub returns-then-not-branch : goal.returns-then-not-branch
returns-then-not-branch c = part_fails c.args.report.now c.as_slice-parts.result.now c.loop-worker.worker c.as_slice-parts.ensures c.index-parts-worker.result c.in_ok-are_later_in.field-0 c.loop-worker-test.true c.index-parts-worker.is c.in_ok-are_later_in.ensures c.if-not-branch.true

pub returns : goal.returns
returns c = all_later c.args.report.now c.as_slice-parts.result.now c.loop-worker.worker c.as_slice-parts.ensures c.loop-worker-test.false c.loop-worker.invariant
