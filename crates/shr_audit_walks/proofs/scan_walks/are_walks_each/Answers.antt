-- SPDX-License-Identifier: GPL-2.0-only
use Rattle.shr_audit_walks.proofs.ScansCommon.{Decides, IsLawfulWalk, AreLawful}
use Rattle.shr_audit_passes.proofs.Parts.{parts_all, parts_fail, parts_more}
use Rattle.shr_audit_walks.proofs.scan_walks.are_walks_each.Goals as goal

pub returns-then-not-branch : goal.returns-then-not-branch
returns-then-not-branch c =
    let s = c.args.known.now.script.now in
    let r = c.args.known.now.report.now in
    let d : Decides c.in_ok-are_lawful.field-0 (AreLawful s r c.loop-worker.worker c.as_slice.result.now) = c.in_ok-are_lawful.ensures in
    parts_fail r c.as_slice-parts.result.now (IsLawfulWalk s r) c.loop-worker.worker c.index-parts-worker.result c.as_slice.result.now c.in_ok-are_lawful.field-0
    c.as_slice-parts.ensures c.loop-worker-test.true c.index-parts-worker.is c.as_slice.ensures d c.if-not-branch.true

pub loop-worker-preserved : goal.loop-worker-preserved
loop-worker-preserved c =
    let s = c.args.known.now.script.now in
    let r = c.args.known.now.report.now in
    let d : Decides c.in_ok-are_lawful.field-0 (AreLawful s r c.loop-worker.worker c.as_slice.result.now) = c.in_ok-are_lawful.ensures in
    parts_more c.as_slice-parts.result.now (IsLawfulWalk s r) c.loop-worker.worker c.index-parts-worker.result c.as_slice.result.now c.in_ok-are_lawful.field-0
    c.loop-worker-test.true c.index-parts-worker.is c.as_slice.ensures d c.if-not-branch.false c.loop-worker.invariant

pub returns : goal.returns
returns c = parts_all c.args.known.now.report.now c.as_slice-parts.result.now (IsLawfulWalk c.args.known.now.script.now c.args.known.now.report.now) c.loop-worker.worker c.as_slice-parts.ensures c.loop-worker-test.false c.loop-worker.invariant
