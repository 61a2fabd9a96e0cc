-- SPDX-License-Identifier: GPL-2.0-only
use Rattle.shr_audit_text.proofs.Common.{◌≡◌, Some, Option, sym, ap, subst, ◌∙◌, pieces, Report, Said, read_line, IsReadOf, drafted_report, with_said, Reads, IsTightReport}
use Rattle.shr_audit_text.proofs.Tight.{tight_drafted}
use Rattle.shr_audit_text.proofs.Whole.{reads_of}
use Rattle.shr_audit_text.proofs.Steps.{goes_on, ends, not_none, found_is, not_both}
use Rattle.shr_audit_text.proofs.reading.read.Goals as goal

pub returns-in_default-2-clause-found : goal.returns-in_default-2-clause-found
returns-in_default-2-clause-found c r is =
    let step = goes_on c.in-Some.line.now c.loop-line.rest.now c.in-Some.behind.now (drafted_report c.loop-line.draft) r c.in-Some.ensures.some (c.loop-line.invariant r (reads_of c.args.bytes.now r is)) in
    absurd (not_none c.loop-line.draft.version c.in-Some.line.now step.0 step.1.0 (subst (λ (o : Option Said). IsReadOf o (read_line c.loop-line.draft.version c.in-Some.line.now)) c.in_default-2.is c.in_ok-said.ensures))

pub loop-line-preserved : goal.loop-line-preserved
loop-line-preserved c r h =
    let step = goes_on c.in-Some.line.now c.loop-line.rest.now c.in-Some.behind.now (drafted_report c.loop-line.draft) r c.in-Some.ensures.some (c.loop-line.invariant r h) in
    let found : c.in-Some-2.said ≡ step.0 = found_is c.loop-line.draft.version c.in-Some.line.now step.0 c.in-Some-2.said step.1.0 (subst (λ (o : Option Said). IsReadOf o (read_line c.loop-line.draft.version c.in-Some.line.now)) c.in-Some-2.is c.in_ok-said.ensures) in
    subst (λ (b : Report). Reads (pieces 10 c.in-Some.behind.now) b r) (sym (c.in_ok-take.ensures ∙ ap (λ (s : Said). with_said s (drafted_report c.loop-line.draft)) found)) step.1.1

pub returns-in_ok-finish-clause-found : goal.returns-in_ok-finish-clause-found
returns-in_ok-finish-clause-found c r is =
    let last = ends c.loop-line.rest.now c.loop-line.rest.now (drafted_report c.loop-line.draft) r c.in_default.ensures.none (c.loop-line.invariant r (reads_of c.args.bytes.now r is)) in
    ap (λ (x : Report). Some x) (c.in_ok-finish.ensures ∙ last.1)

pub returns-else-is_empty-clause-found : goal.returns-else-is_empty-clause-found
returns-else-is_empty-clause-found c r is =
    let last = ends c.loop-line.rest.now c.loop-line.rest.now (drafted_report c.loop-line.draft) r c.in_default.ensures.none (c.loop-line.invariant r (reads_of c.args.bytes.now r is)) in
    absurd (not_both c.loop-line.rest.now c.is_empty.result c.is_empty.ensures c.if-is_empty.false last.0)

pub returns-in_ok-finish-clause-tight : goal.returns-in_ok-finish-clause-tight
returns-in_ok-finish-clause-tight c = subst IsTightReport (sym c.in_ok-finish.ensures) (tight_drafted c.loop-line.draft)
