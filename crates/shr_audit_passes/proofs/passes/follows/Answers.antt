-- SPDX-License-Identifier: GPL-2.0-only
use Rattle.shr_audit_passes.proofs.Common.{◌*◌, ◌∙◌, ℕ, ap, subst, arith, nat_tests, next_of, MadeOf}
use Rattle.shr_audit_passes.proofs.Arithmetic.{scanned_other, follows_if, product_is}
use Rattle.shr_audit_passes.proofs.passes.follows.Goals as goal

pub returns-then-pass-min : goal.returns-then-pass-min
returns-then-pass-min c =
    let p = c.args.pass.now in
    scanned_other c.args.priority c.args.seeks c.args.batch p (c.min.result * c.asks_due-due.result.size)
    (product_is c.min.result p.asks c.asks_due-due.result.count c.asks_due-due.result.size _ _ c.min.ensures c.asks_due-due.ensures.count c.asks_due-due.ensures.size)
    c.if-pass-min.true

pub returns : goal.returns
returns c =
    let p = c.args.pass.now in
    follows_if c.args.priority c.args.seeks c.args.batch p (c.min.result * c.asks_due-due.result.size) _
    (product_is c.min.result p.asks c.asks_due-due.result.count c.asks_due-due.result.size _ _ c.min.ensures c.asks_due-due.ensures.count c.asks_due-due.ensures.size)
    (subst (λ (k : ℕ). MadeOf p.asks p.ending k) c.asks_due-due.ensures.count (c.are_made.ensures.0 c.if-not-are_made.false))
    c.if-pass-min.false
    (c.if-pass-next_deferred.false ∙ c.next_deferred.ensures ∙ ap (λ (x : ℕ). next_of p.nr x p.scanned p.len) c.delta_of-delta.ensures.value)
    (grind (arith, nat_tests), grind (arith, nat_tests))
