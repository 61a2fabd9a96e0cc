-- SPDX-License-Identifier: GPL-2.0-only
use Rattle.shr_audit_pools.specs.Places.{named_place}
use Rattle.shr_audit_pools.proofs.Tried.{try_decided}
use Rattle.shr_audit_pools.proofs.walks.is_try_right.Goals as goal

pub returns : goal.returns
returns c =
    try_decided c.args.report.now c.args.at.worker c.args.at.walk c.args.walk.now c.args.at.pool (named_place c.args.at.place) c.args.decl.now c.args.tried.now c.is_run_right.result (c.is_counted.ensures.0 c.if-not-is_counted.false) (c.is_kind.ensures.0 c.if-not-is_kind.false)
    c.is_run_right.ensures
