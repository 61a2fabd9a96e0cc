-- SPDX-License-Identifier: GPL-2.0-only
use Rattle.shr_audit_tables.proofs.LookupsCommon.{length, refl, slice_get_read, WalkRecord, EachItem, fails, Report, EachAttempt, IsMetRight, each_all, each_more}
use Rattle.shr_audit_tables.proofs.met.are_walks_right.Goals as goal

abbrev right : Report → WalkRecord → Type 0
right r w = EachAttempt w (IsMetRight r)

pub returns-then-not-are_attempts_right : goal.returns-then-not-are_attempts_right
returns-then-not-are_attempts_right c =
    let p = right c.args.report.now in
    let ws = c.args.walks.now in
    let w = c.walk-item.result in
    fails (p w) (EachItem p ws) c.are_attempts_right.result c.are_attempts_right.ensures c.if-not-are_attempts_right.true (λ all. all c.loop-walk.walk-index w (slice_get_read ws (length ws) c.loop-walk.walk-index w refl c.loop-walk-test.true c.walk-item.is))

pub loop-walk-preserved : goal.loop-walk-preserved
loop-walk-preserved c = each_more (right c.args.report.now) c.args.walks.now c.loop-walk.walk-index c.walk-item.result c.loop-walk-test.true c.walk-item.is c.loop-walk.invariant
    (c.are_attempts_right.ensures.0 c.if-not-are_attempts_right.false)

pub returns : goal.returns
returns c = each_all (right c.args.report.now) c.args.walks.now c.loop-walk.walk-index c.loop-walk-test.false c.loop-walk.invariant
