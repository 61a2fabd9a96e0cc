-- SPDX-License-Identifier: GPL-2.0-only
use Rattle.shr_audit.proofs.Common.{Holds, AreRepliesLawful}
use Rattle.shr_audit_formed.proofs.Eachs.{fails}
use Rattle.shr_audit.specs.declared.verdict.Law.TheVariants as laws
use Rattle.shr_audit.proofs.asked.are_replies_held.Goals as goal

pub returns-then-not-branch : goal.returns-then-not-branch
returns-then-not-branch c = let s = c.args.script.now in let r = c.args.report.now in
    fails (AreRepliesLawful s r) (Holds laws.Replies s r) c.in_ok-are_replies_lawful.field-0 c.in_ok-are_replies_lawful.ensures c.if-not-branch.true (λ h. h.0)

pub returns : goal.returns
returns c = let d = c.are_cited_once-once.ensures in (λ t. (c.in_ok-are_replies_lawful.ensures.0 c.if-not-branch.false, d.0 t), λ h. d.1 h.1)
