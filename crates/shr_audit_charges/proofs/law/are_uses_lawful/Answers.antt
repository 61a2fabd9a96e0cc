-- SPDX-License-Identifier: GPL-2.0-only
use Rattle.shr_audit_charges.proofs.Common.{ℕ, List, Option, ap, length, subst, ◌∙◌, Decides, parents_of, AreFinal, AreWithin, AreOwnRight}
use Rattle.shr_audit_charges.proofs.WholeLaw.{uses_decided}
use Rattle.shr_audit_charges.proofs.law.are_uses_lawful.Goals as goal

pub returns : goal.returns
returns c =
    let same = c.requires.case.parents in
    let uses = c.as_slice-uses.result.now in
    let limits = c.in_ok-limits.limits.items in
    let b = c.are_within-within.result in
    let groups = ap length (c.as_slice-parents.ensures.value ∙ same) in
    let h = rw c.in-Some.is at c.in_ok-usages.ensures.some in
    let own : AreOwnRight limits uses = subst (λ (l : List (Option ℕ)). AreOwnRight l uses) c.as_slice.ensures.value (c.in_ok-are_own_right.ensures.0 c.if-not-branch.false) in
    let final : AreFinal (parents_of c.args.script.now) c.args.report.now uses = subst (λ (ps : List ℕ). AreFinal ps c.args.report.now uses) same (c.in_ok-are_final.ensures.0 c.if-not-branch-2.false) in
    let within : Decides b (AreWithin limits c.as_slice-3.result.now) = subst (λ (l : List (Option ℕ)). Decides b (AreWithin l c.as_slice-3.result.now)) c.as_slice-2.ensures.value c.are_within-within.ensures in
    uses_decided c.args.script.now c.args.report.now (length c.as_slice-parents.result.now) limits uses c.in-Some.usages.items c.as_slice-3.result.now b groups c.in_ok-limits.ensures c.as_slice-uses.ensures c.as_slice-3.ensures.value h
    own (c.are_ups_of_puts.ensures.0 c.if-not-are_ups_of_puts.false) final within
