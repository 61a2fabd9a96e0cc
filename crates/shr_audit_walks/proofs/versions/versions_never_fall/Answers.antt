-- SPDX-License-Identifier: GPL-2.0-only
use Rattle.shr_audit_formed.proofs.Eachs.{each_more}
use Rattle.shr_audit_walks.specs.VersionTable.{IsPartRising}
use Rattle.shr_audit_walks.proofs.VersionsParts.{of_part, part_falls, parts_all}
use Rattle.shr_audit_walks.proofs.versions.versions_never_fall.Goals as goal

pub loop-worker-preserved : goal.loop-worker-preserved
loop-worker-preserved c =
    each_more IsPartRising c.as_slice-parts.result.now c.loop-worker.worker c.index-parts-worker.result c.loop-worker-test.true c.index-parts-worker.is c.loop-worker.invariant
    ((of_part c.index-parts-worker.result c.as_slice.result.now c.in_ok-walks_never_fall.field-0 c.as_slice.ensures c.in_ok-walks_never_fall.ensures).0 c.if-not-branch.false)

pub returns-then-not-branch : goal.returns-then-not-branch
returns-then-not-branch c =
    part_falls c.args.report.now c.as_slice-parts.result.now c.loop-worker.worker c.as_slice-parts.ensures c.index-parts-worker.result c.in_ok-walks_never_fall.field-0 c.loop-worker-test.true c.index-parts-worker.is c.if-not-branch.true
    (of_part c.index-parts-worker.result c.as_slice.result.now c.in_ok-walks_never_fall.field-0 c.as_slice.ensures c.in_ok-walks_never_fall.ensures)

pub returns : goal.returns
returns c = parts_all c.args.report.now c.as_slice-parts.result.now c.loop-worker.worker c.as_slice-parts.ensures c.loop-worker-test.false c.loop-worker.invariant
