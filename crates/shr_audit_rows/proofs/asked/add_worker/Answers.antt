-- SPDX-License-Identifier: GPL-2.0-only
use Rattle.shr_audit_rows.proofs.Common.{◌≡◌, List, Option, length, subst, sym, arith, answers_of, Asked, AddsSo, IsSoIfAsked, asked_at}
use Rattle.shr_audit_rows.proofs.AskedLaws.{adds_end, adds_next, adds_one, adds_start}
use Rattle.shr_audit_rows.proofs.asked.add_worker.Goals as goal

pub loop-number-init : goal.loop-number-init
loop-number-init c = let s = c.args.script.now in let r = c.args.report.now in adds_start s r (λ k. IsSoIfAsked s r (asked_at s r c.args.worker k)) c.args.asked.now.items

pub loop-number-preserved : goal.loop-number-preserved
loop-number-preserved c =
    let s = c.args.script.now in
    let r = c.args.report.now in
    let n = c.loop-number.number in
    let now = c.loop-number.asked.items in
    let new = c.add.new.asked.items in
    let more = c.asked_at-more.result in
    let here : AddsSo s r now new (IsSoIfAsked s r more) = subst (λ (xs : List Asked). AddsSo s r now xs (IsSoIfAsked s r more)) (sym c.in_ok-add.ensures) (adds_one s r now more) in
    adds_next s r (λ k. IsSoIfAsked s r (asked_at s r c.args.worker k)) c.args.asked.now.items now new n c.loop-number.invariant
    (subst (λ (o : Option Asked). AddsSo s r now new (IsSoIfAsked s r o)) c.asked_at-more.ensures here)

pub returns : goal.returns
returns c =
    let s = c.args.script.now in
    let r = c.args.report.now in
    let n = c.loop-number.number in
    let end = c.count_answers-number-end.ensures in
    let le = c.loop-number-test.false in
    let most = c.loop-number.auto.number-end in
    let same : n ≡ length (answers_of r c.args.worker) = omega (arith, end, le, most) in
    adds_end s r (λ k. IsSoIfAsked s r (asked_at s r c.args.worker k)) c.args.asked.now.items c.loop-number.asked.items n (length (answers_of r c.args.worker)) same c.loop-number.invariant
