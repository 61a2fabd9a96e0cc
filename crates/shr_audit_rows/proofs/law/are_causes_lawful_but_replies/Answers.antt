-- SPDX-License-Identifier: GPL-2.0-only
use Rattle.shr_audit_formed.proofs.Eachs.{fails}
use Rattle.shr_audit_rows.specs.Law.{AreCausesLawfulButReplies, AreEntriesCaused, AreWalksCaused}
use Rattle.shr_audit_rows.proofs.law.are_causes_lawful_but_replies.Goals as goal

pub returns-then-not-branch : goal.returns-then-not-branch
returns-then-not-branch c = let s = c.args.script.now in let r = c.args.report.now in
    fails (AreEntriesCaused s r) (AreCausesLawfulButReplies s r) c.in_ok-are_entries_caused.field-0 c.in_ok-are_entries_caused.ensures c.if-not-branch.true (λ h. h.entries)

pub returns-then-not-are_walks_caused : goal.returns-then-not-are_walks_caused
returns-then-not-are_walks_caused c = let s = c.args.script.now in let r = c.args.report.now in
    fails (AreWalksCaused s r) (AreCausesLawfulButReplies s r) c.are_walks_caused.result c.are_walks_caused.ensures c.if-not-are_walks_caused.true (λ h. h.walks)

pub returns : goal.returns
returns c = let d = c.in_ok-fresh.ensures in (
  λ t. record {
    entries = c.in_ok-are_entries_caused.ensures.0 c.if-not-branch.false;
    walks = c.are_walks_caused.ensures.0 c.if-not-are_walks_caused.false;
    fresh = d.0 t;
  },
  λ h. d.1 h.fresh,
)
