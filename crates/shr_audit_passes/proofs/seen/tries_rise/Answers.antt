-- SPDX-License-Identifier: GPL-2.0-only
use Rattle.shr_audit_passes.proofs.Common.{◌≡◌, ap, ◌∙◌, sym, get_or, arith, Attempt}
use Rattle.shr_audit_passes.proofs.Rising.{too_many, not_rising, all_rising, one_more}
use Rattle.shr_audit_passes.proofs.seen.tries_rise.Goals as goal

pub returns-then-attempts-ids : goal.returns-then-attempts-ids
returns-then-attempts-ids c = too_many (λ (a : Attempt). a.id) c.args.attempts.now c.args.ids (omega arith)

pub returns-then-attempt-i : goal.returns-then-attempt-i
returns-then-attempt-i c =
    let item = c.index-attempts-i.result in
    let id : c.attempt.inside.id ≡ (get_or c.args.attempts.now c.loop-i.i item).id = ap (λ (a : Attempt). a.id) (c.attempt.view_is ∙ c.index-attempts-i.is) in
    not_rising (λ (a : Attempt). a.id) c.args.attempts.now c.args.ids c.loop-i.i item c.if-attempts-ids.false c.loop-i-test.true (λ e. c.if-attempt-i.true (id ∙ e))

pub loop-i-preserved : goal.loop-i-preserved
loop-i-preserved c =
    let item = c.index-attempts-i.result in
    let id : c.attempt.inside.id ≡ (get_or c.args.attempts.now c.loop-i.i item).id = ap (λ (a : Attempt). a.id) (c.attempt.view_is ∙ c.index-attempts-i.is) in
    one_more (λ (a : Attempt). a.id) c.args.attempts.now c.loop-i.i item c.loop-i-test.true (sym id ∙ c.if-attempt-i.false) c.loop-i.invariant

pub returns : goal.returns
returns c = all_rising (λ (a : Attempt). a.id) c.args.attempts.now c.args.ids c.loop-i.i (omega arith) (omega arith) (omega arith) c.loop-i.invariant
