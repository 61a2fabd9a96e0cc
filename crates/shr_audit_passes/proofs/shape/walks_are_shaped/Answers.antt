-- SPDX-License-Identifier: GPL-2.0-only
use Rattle.shr_audit_passes.proofs.Common.{Decides, EachItem, IsShaped}
use Rattle.shr_audit_passes.proofs.Parts.{parts_all, parts_fail, parts_more}
use Rattle.shr_audit_passes.proofs.shape.walks_are_shaped.Goals as goal

pub returns-then-not-branch : goal.returns-then-not-branch
returns-then-not-branch c =
    let d : Decides c.in_ok-are_shaped.field-0 (EachItem (IsShaped c.args.script.now) c.as_slice.result.now) = c.in_ok-are_shaped.ensures in
    parts_fail c.args.report.now c.as_slice-parts.result.now (λ worker n w. IsShaped c.args.script.now w) c.loop-worker.worker c.index-parts-worker.result c.as_slice.result.now c.in_ok-are_shaped.field-0
    c.as_slice-parts.ensures c.loop-worker-test.true c.index-parts-worker.is c.as_slice.ensures d c.if-not-branch.true

pub loop-worker-preserved : goal.loop-worker-preserved
loop-worker-preserved c =
    let d : Decides c.in_ok-are_shaped.field-0 (EachItem (IsShaped c.args.script.now) c.as_slice.result.now) = c.in_ok-are_shaped.ensures in
    parts_more c.as_slice-parts.result.now (λ worker n w. IsShaped c.args.script.now w) c.loop-worker.worker c.index-parts-worker.result c.as_slice.result.now c.in_ok-are_shaped.field-0
    c.loop-worker-test.true c.index-parts-worker.is c.as_slice.ensures d c.if-not-branch.false c.loop-worker.invariant

pub returns : goal.returns
returns c = parts_all c.args.report.now c.as_slice-parts.result.now (λ worker n w. IsShaped c.args.script.now w) c.loop-worker.worker c.as_slice-parts.ensures c.loop-worker-test.false c.loop-worker.invariant
