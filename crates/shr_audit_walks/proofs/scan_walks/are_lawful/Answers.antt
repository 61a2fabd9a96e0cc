-- SPDX-License-Identifier: GPL-2.0-only
use Rattle.shr_audit_walks.proofs.ScansCommon.{Decides, all_at, IsLawfulWalk, more_at}
use Rattle.shr_audit_walks.proofs.scan_walks.are_lawful.Goals as goal
use Rattle.shr_audit_formed.proofs.Eachs.{one_fails}

pub returns-then-not-branch : goal.returns-then-not-branch
returns-then-not-branch c =
    let k = c.args.known.now in
    let d : Decides c.in_ok-is_lawful_walk.field-0 (IsLawfulWalk k.script.now k.report.now c.args.worker c.loop-n.n c.index-walks-n.result) = c.in_ok-is_lawful_walk.ensures in
    one_fails (IsLawfulWalk k.script.now k.report.now c.args.worker) c.args.walks.now c.loop-n.n c.index-walks-n.result c.in_ok-is_lawful_walk.field-0 c.loop-n-test.true c.index-walks-n.is d c.if-not-branch.true

pub loop-n-preserved : goal.loop-n-preserved
loop-n-preserved c =
    let k = c.args.known.now in
    let d : Decides c.in_ok-is_lawful_walk.field-0 (IsLawfulWalk k.script.now k.report.now c.args.worker c.loop-n.n c.index-walks-n.result) = c.in_ok-is_lawful_walk.ensures in
    more_at (IsLawfulWalk k.script.now k.report.now c.args.worker) c.args.walks.now c.loop-n.n c.index-walks-n.result c.loop-n-test.true c.index-walks-n.is c.loop-n.invariant (d.0 c.if-not-branch.false)

pub returns : goal.returns
returns c = all_at (IsLawfulWalk c.args.known.now.script.now c.args.known.now.report.now c.args.worker) c.args.walks.now c.loop-n.n c.loop-n-test.false c.loop-n.invariant
