-- SPDX-License-Identifier: GPL-2.0-only
use Rattle.shr_audit_reasons.proofs.Common.{◌≡◌, ℕ, List, Some, length, slice_get, subst, Decides, TreeEntry, Cited, AreCited, IsDoneNotedOnce}
use Rattle.shr_audit_reasons.specs.declared.cites.What.TheVariants as what
use Rattle.shr_audit_reasons.proofs.Treeing.{dones_of}
use Rattle.shr_audit_reasons.proofs.trees.are_dones_caused.Goals as goal

pub returns : goal.returns
returns c =
    let s = c.args.script.now in
    let r = c.args.report.now in
    let table = c.in_ok-table.table.items in
    let b = c.are_dones_once-all.result in
    let cited : AreCited s r what.Done (length r.tree.items) table = subst (λ (size : ℕ). AreCited s r what.Done size table) c.len.ensures c.in_ok-table.ensures in
    let noted : Decides b ((n : ℕ) (e : TreeEntry) → slice_get c.as_slice-2.result.now n ≡ Some e → IsDoneNotedOnce table n e) = subst (λ (t : List Cited). Decides b ((n : ℕ) (e : TreeEntry) → slice_get c.as_slice-2.result.now n ≡ Some e → IsDoneNotedOnce t n e)) c.as_slice.ensures.value c.are_dones_once-all.ensures in
    dones_of s r table b cited (subst (λ (tree : List TreeEntry). Decides b ((n : ℕ) (e : TreeEntry) → slice_get tree n ≡ Some e → IsDoneNotedOnce table n e)) c.as_slice-2.ensures noted)
