-- SPDX-License-Identifier: GPL-2.0-only
use Rattle.shr_audit_walks.proofs.ScansCommon.{subst, Decides, Attempt}
use Rattle.shr_audit_walks.specs.ScanWalks.{IsScannedAt}
use Rattle.shr_audit_walks.proofs.scan_walks.are_scanned.Goals as goal
use Rattle.shr_audit_formed.proofs.Eachs.{each_fail, each_more, each_whole}

pub returns-then-not-is_scanned_at : goal.returns-then-not-is_scanned_at
returns-then-not-is_scanned_at c =
    each_fail (IsScannedAt c.args.known.now.script.now c.args.known.now.report.now c.args.worker c.args.n c.args.walk.now) c.attempts-attempt-items.result.now c.args.walk.now.attempts.items c.loop-attempt.attempt-index c.attempt-item.result c.is_scanned_at.result c.attempts-attempt-items.ensures c.loop-attempt-test.true
    (subst (λ (a : Attempt). Decides c.is_scanned_at.result (IsScannedAt c.args.known.now.script.now c.args.known.now.report.now c.args.worker c.args.n c.args.walk.now a)) c.attempt-item.is c.is_scanned_at.ensures) c.if-not-is_scanned_at.true

pub loop-attempt-preserved : goal.loop-attempt-preserved
loop-attempt-preserved c =
    each_more (IsScannedAt c.args.known.now.script.now c.args.known.now.report.now c.args.worker c.args.n c.args.walk.now) c.attempts-attempt-items.result.now c.loop-attempt.attempt-index c.attempt-item.result c.loop-attempt-test.true c.attempt-item.is c.loop-attempt.invariant
    (c.is_scanned_at.ensures.0 c.if-not-is_scanned_at.false)

pub returns : goal.returns
returns c =
    each_whole (IsScannedAt c.args.known.now.script.now c.args.known.now.report.now c.args.worker c.args.n c.args.walk.now) c.attempts-attempt-items.result.now c.args.walk.now.attempts.items c.loop-attempt.attempt-index c.attempts-attempt-items.ensures c.loop-attempt-test.false c.loop-attempt.invariant
