-- SPDX-License-Identifier: GPL-2.0-only
use Rattle.shr_audit_formed.proofs.Eachs.{fails}
use Rattle.shr_laws.specs.CausesLawful.{AreCausesLawful}
use Rattle.shr_audit_causes.specs.Rows.{AreRowsCaused}
use Rattle.shr_audit_causes.proofs.Fields.{others_of, whole_of}
use Rattle.shr_audit_causes.proofs.law.are_causes_lawful.Goals as goal

pub returns-then-not-branch : goal.returns-then-not-branch
returns-then-not-branch c = let s = c.args.script.now in let r = c.args.report.now in
    fails (AreRowsCaused s r) (AreCausesLawful s r) c.in_ok-are_rows_caused.field-0 c.in_ok-are_rows_caused.ensures c.if-not-branch.true (λ h. h.rows)

pub returns : goal.returns
returns c = let s = c.args.script.now in let r = c.args.report.now in
    let rows = c.in_ok-are_rows_caused.ensures.0 c.if-not-branch.false in
    let d = c.in_ok-others.ensures in
    (λ t. whole_of s r rows (d.0 t), λ h. d.1 (others_of s r h))
