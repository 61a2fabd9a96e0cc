-- SPDX-License-Identifier: GPL-2.0-only
use Rattle.shr_audit_formed.proofs.Eachs.{fails}
use Rattle.shr_laws.specs.Replies.{AreRepliesLawful}
use Rattle.shr_audit_replies.specs.Law.{AreRepliesLawfulButValues}
use Rattle.shr_audit_replies.proofs.Whole.{but_values, lawful_of, values_lent}
use Rattle.shr_audit_replies.proofs.values.are_replies_lawful.Goals as goal

pub returns-then-not-lawful : goal.returns-then-not-lawful
returns-then-not-lawful c =
    let s = c.args.script.now in
    let r = c.args.report.now in
    fails (AreRepliesLawfulButValues s r) (AreRepliesLawful s r) c.in_ok-lawful.lawful c.in_ok-lawful.ensures c.if-not-lawful.true (but_values s r)

pub returns : goal.returns
returns c =
    let s = c.args.script.now in
    let r = c.args.report.now in (
      λ t. lawful_of s r (c.in_ok-lawful.ensures.0 c.if-not-lawful.false) (c.are_values_lent-lent.ensures.0 t),
      λ law. c.are_values_lent-lent.ensures.1 (values_lent s r law),
    )
