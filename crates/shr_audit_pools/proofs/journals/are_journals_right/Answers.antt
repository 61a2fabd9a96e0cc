-- SPDX-License-Identifier: GPL-2.0-only
use Rattle.shr_audit_pools.proofs.Journaled.{journals_decided, journals_wrong}
use Rattle.shr_audit_pools.proofs.journals.are_journals_right.Goals as goal

pub returns-then-are_all_right : goal.returns-then-are_all_right
returns-then-are_all_right c =
    journals_decided c.args.script.now c.args.report.now c.as_slice-ends.result.now c.are_all_apart.result c.requires c.as_slice-ends.ensures (c.are_all_right.ensures.0 c.if-are_all_right.true) c.are_all_apart.ensures

pub returns-else-are_all_right : goal.returns-else-are_all_right
returns-else-are_all_right c =
    journals_wrong c.args.script.now c.args.report.now c.as_slice-ends.result.now c.are_all_right.result c.as_slice-ends.ensures c.are_all_right.ensures c.if-are_all_right.false
