-- SPDX-License-Identifier: GPL-2.0-only
use Rattle.shr_audit_pools.proofs.Lawed.{cites_decided}
use Rattle.shr_audit_pools.proofs.pools.are_cites_right.Goals as goal

pub returns : goal.returns
returns c = cites_decided c.args.script.now c.args.report.now c.in_ok-rising.rising (c.are_replies_right.ensures.0 c.if-not-are_replies_right.false) (c.are_all_entries_right.ensures.0 c.if-not-are_all_entries_right.false) c.in_ok-rising.ensures
