-- SPDX-License-Identifier: GPL-2.0-only
use Rattle.shr_audit_rows.proofs.Common.{ℕ, Option, subst, sym, Decides, IsSomeAnd, Reply, HasCountCause}
use Rattle.shr_audit_rows.specs.Registered.{EntryRegisters}
use Rattle.shr_audit_rows.proofs.rows.is_count_caused.Goals as goal

pub returns-in-Registered : goal.returns-in-Registered
returns-in-Registered c =
    let s = c.args.script.now in
    let r = c.args.report.now in
    let b = c.is_registered.result in
    subst (λ (x : Reply). Decides b (HasCountCause s r c.args.by c.args.command.now x)) (sym c.in-Registered.is)
    (subst (λ (o : Option ℕ). Decides b (IsSomeAnd o (λ d. EntryRegisters r d c.in-Registered.id c.in-Registered.entry))) c.decl_named-decl.ensures c.is_registered.ensures)
