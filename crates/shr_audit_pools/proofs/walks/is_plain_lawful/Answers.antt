-- SPDX-License-Identifier: GPL-2.0-only
use Rattle.shr_audit_pools.proofs.Common.{ℕ, length, subst, HasTries}
use Rattle.shr_audit_pools.proofs.Tried.{freed_decided, plain_decided, plain_fails}
use Rattle.shr_audit_pools.proofs.walks.is_plain_lawful.Goals as goal

pub returns-then-not-are_tries_right : goal.returns-then-not-are_tries_right
returns-then-not-are_tries_right c = plain_fails c.args.script.now c.args.report.now c.args.worker c.args.n c.args.walk.now c.are_tries_right.result c.are_tries_right.ensures c.if-not-are_tries_right.true

pub returns : goal.returns
returns c =
    let w = c.args.walk.now in
    plain_decided c.args.script.now c.args.report.now c.args.worker c.args.n w c.have_freed-freed.result (subst (λ (k : ℕ). HasTries k w.answer (length w.tries.items)) c.len.ensures (c.has_tries.ensures.0 c.if-not-has_tries.false))
    (c.are_tries_right.ensures.0 c.if-not-are_tries_right.false) (freed_decided w.answer c.plain_told.result c.as_slice.result.now w.tries.items c.have_freed-freed.result c.plain_told.ensures c.as_slice.ensures c.have_freed-freed.ensures)
