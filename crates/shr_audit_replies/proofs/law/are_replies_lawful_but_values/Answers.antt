-- SPDX-License-Identifier: GPL-2.0-only
use Rattle.shr_audit_replies.proofs.Common.{fails, AreAnswered, AreEntriesCited, AllHaveAnswers, AreLastSwept, AreRepliesLawfulButValues, HasHeads}
use Rattle.shr_audit_replies.proofs.Answering.{journals_rise, replies_rise}
use Rattle.shr_audit_replies.proofs.law.are_replies_lawful_but_values.Goals as goal

pub returns-then-not-has_heads : goal.returns-then-not-has_heads
returns-then-not-has_heads c = fails (HasHeads c.args.script.now c.args.report.now) (AreRepliesLawfulButValues c.args.script.now c.args.report.now) c.has_heads.result c.has_heads.ensures c.if-not-has_heads.true (λ h. h.heads)

pub returns-then-not-is_counted : goal.returns-then-not-is_counted
returns-then-not-is_counted c = fails (AllHaveAnswers c.args.script.now c.args.report.now) (AreRepliesLawfulButValues c.args.script.now c.args.report.now) c.is_counted.result c.is_counted.ensures c.if-not-is_counted.true (λ h. h.counts)

pub returns-then-not-are_last_swept : goal.returns-then-not-are_last_swept
returns-then-not-are_last_swept c = fails (AreLastSwept c.args.script.now c.args.report.now) (AreRepliesLawfulButValues c.args.script.now c.args.report.now) c.are_last_swept.result c.are_last_swept.ensures c.if-not-are_last_swept.true (λ h. h.last)

pub returns-then-not-are_answered : goal.returns-then-not-are_answered
returns-then-not-are_answered c = fails (AreAnswered c.args.script.now c.args.report.now) (AreRepliesLawfulButValues c.args.script.now c.args.report.now) c.are_answered.result c.are_answered.ensures c.if-not-are_answered.true (λ h. h.answered)

pub returns-then-not-are_entries_cited : goal.returns-then-not-are_entries_cited
returns-then-not-are_entries_cited c = fails (AreEntriesCited c.args.report.now) (AreRepliesLawfulButValues c.args.script.now c.args.report.now) c.are_entries_cited.result c.are_entries_cited.ensures c.if-not-are_entries_cited.true (λ h. h.cited)

pub returns : goal.returns
returns c =
    let s = c.args.script.now in
    let r = c.args.report.now in
    let counts = c.is_counted.ensures.0 c.if-not-is_counted.false in
    let last = c.are_last_swept.ensures.0 c.if-not-are_last_swept.false in
    let answered = c.are_answered.ensures.0 c.if-not-are_answered.false in (
      λ t. record {
        heads = c.has_heads.ensures.0 c.if-not-has_heads.false;
        counts = counts;
        last = last;
        answered = answered;
        cited = c.are_entries_cited.ensures.0 c.if-not-are_entries_cited.false;
        rise = replies_rise s r counts last answered (c.in_ok-rising.ensures.0 t);
      },
      λ h. c.in_ok-rising.ensures.1 (journals_rise s r h.cited h.rise),
    )
