-- SPDX-License-Identifier: GPL-2.0-only
use Rattle.shr_audit_pools.proofs.Lawed.{journals_fail, kept_from, pools_decided}
use Rattle.shr_audit_pools.proofs.pools.are_pools_lawful.Goals as goal

pub are_rest_right-requires-clause-kept : goal.are_rest_right-requires-clause-kept
are_rest_right-requires-clause-kept c = kept_from c.args.script.now c.args.report.now c.requires.well c.requires.numbers (c.are_journals_right.ensures.0 c.if-not-are_journals_right.false)

pub returns-then-not-are_journals_right : goal.returns-then-not-are_journals_right
returns-then-not-are_journals_right c = journals_fail c.args.script.now c.args.report.now c.are_journals_right.result c.are_journals_right.ensures c.if-not-are_journals_right.true

pub returns : goal.returns
returns c = pools_decided c.args.script.now c.args.report.now c.in_ok-rest.rest c.requires.well (c.are_journals_right.ensures.0 c.if-not-are_journals_right.false) c.in_ok-rest.ensures
