-- SPDX-License-Identifier: GPL-2.0-only
use Rattle.shr_audit_fresh.proofs.Common.{ℕ, ◌≤◌, List, subst, arith, Decides, Answered, Cited, Report, of_answer, tree_cited, serial_of, IsEntryStarted}
use Rattle.shr_audit_fresh.proofs.StartedLaws.{past_started}
use Rattle.shr_audit_case.proofs.Upto.{upto_all, upto_fails, upto_more}
use Rattle.shr_audit_fresh.proofs.started.are_answers_started.Goals as goal

abbrev So : Report → List Cited → ℕ → ℕ → Type 0
So r begun worker k = IsEntryStarted r begun worker k (of_answer r (serial_of worker k) (λ (a : Answered). tree_cited a.reply))

pub loop-number-preserved : goal.loop-number-preserved
loop-number-preserved c =
    let r = c.args.report.now in
    let w = c.args.worker in
    let k = c.loop-number.number in
    upto_more (So r c.args.begun.now w) k c.loop-number.invariant
    (subst (λ (ns : List ℕ). IsEntryStarted r c.args.begun.now w k ns) c.cited_by-cited.ensures (c.is_entry_started.ensures.0 c.if-not-is_entry_started.false))

pub returns-then-not-is_entry_started : goal.returns-then-not-is_entry_started
returns-then-not-is_entry_started c =
    let r = c.args.report.now in
    let w = c.args.worker in
    let k = c.loop-number.number in
    upto_fails (So r c.args.begun.now w) k c.is_entry_started.result
    (subst (λ (ns : List ℕ). Decides c.is_entry_started.result (IsEntryStarted r c.args.begun.now w k ns)) c.cited_by-cited.ensures c.is_entry_started.ensures) c.if-not-is_entry_started.true

pub returns : goal.returns
returns c =
    let r = c.args.report.now in
    let w = c.args.worker in
    let over = subst (λ (n : ℕ). n ≤ c.loop-number.number) c.count_answers-number-end.ensures c.loop-number-test.false in
    upto_all (So r c.args.begun.now w) c.loop-number.number c.loop-number.invariant (λ k le. past_started r c.args.begun.now w k (omega (arith, over, le)))
