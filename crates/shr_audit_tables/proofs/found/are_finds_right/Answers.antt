-- SPDX-License-Identifier: GPL-2.0-only
use Rattle.shr_audit_tables.proofs.LookupsCommon.{more_at, all_at, IsFindAt}
use Rattle.shr_audit_tables.proofs.found.are_finds_right.Goals as goal
use Rattle.shr_audit_formed.proofs.Eachs.{one_fails}

pub returns-then-not-is_find_at : goal.returns-then-not-is_find_at
returns-then-not-is_find_at c =
    one_fails (IsFindAt c.args.script.now c.args.report.now c.args.worker) c.args.answers.now c.loop-number.number c.index-answers-number.result c.is_find_at.result c.loop-number-test.true c.index-answers-number.is c.is_find_at.ensures c.if-not-is_find_at.true

pub loop-number-preserved : goal.loop-number-preserved
loop-number-preserved c = more_at (IsFindAt c.args.script.now c.args.report.now c.args.worker) c.args.answers.now c.loop-number.number c.index-answers-number.result c.loop-number-test.true c.index-answers-number.is c.loop-number.invariant (c.is_find_at.ensures.0 c.if-not-is_find_at.false)

pub returns : goal.returns
returns c = all_at (IsFindAt c.args.script.now c.args.report.now c.args.worker) c.args.answers.now c.loop-number.number c.loop-number-test.false c.loop-number.invariant
