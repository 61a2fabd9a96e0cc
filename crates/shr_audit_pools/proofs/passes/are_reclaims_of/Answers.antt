-- SPDX-License-Identifier: GPL-2.0-only
use Rattle.std.proofs.Common.{◌≡◌, length, arith}
use Rattle.shr_audit_pools.proofs.Reclaimed.{reclaims_differ, reclaims_freed}
use Rattle.shr_audit_pools.proofs.passes.are_reclaims_of.Goals as goal

pub returns-then-not-are_alike : goal.returns-then-not-are_alike
returns-then-not-are_alike c =
    let count : length c.args.reclaims.now ≡ c.args.pass.now.asks = omega arith in
    reclaims_differ c.args.priority c.args.decl.now c.args.pass.now c.args.reclaims.now c.asks_due-due.result.size c.are_alike.result c.asks_due-due.ensures.size count c.requires c.are_alike.ensures c.if-not-are_alike.true

pub returns : goal.returns
returns c =
    let count : length c.args.reclaims.now ≡ c.args.pass.now.asks = omega arith in
    reclaims_freed c.args.priority c.args.decl.now c.args.pass.now c.args.reclaims.now c.asks_due-due.result.size c.have_freed-freed.result c.asks_due-due.ensures.size count c.requires (c.are_alike.ensures.0 c.if-not-are_alike.false) c.have_freed-freed.ensures
