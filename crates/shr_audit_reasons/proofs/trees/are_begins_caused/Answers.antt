-- SPDX-License-Identifier: GPL-2.0-only
use Rattle.shr_audit_reasons.proofs.Common.{◌≡◌, ℕ, List, Some, slice_get, subst, Decides, TreeEntry, EachItem, IsTreeNumbered, Cited, IsBeginCited}
use Rattle.shr_audit_reasons.proofs.Treeing.{begins_of}
use Rattle.shr_audit_reasons.proofs.trees.are_begins_caused.Goals as goal

pub returns : goal.returns
returns c =
    let s = c.args.script.now in
    let r = c.args.report.now in
    let table = c.in_ok-table.table.items in
    let b = c.are_begins_cited-all.result in
    let fits : EachItem IsTreeNumbered r.tree.items = subst (λ (tree : List TreeEntry). EachItem IsTreeNumbered tree) c.as_slice.ensures c.tree_fits.ensures in
    let noted : Decides b ((n : ℕ) (e : TreeEntry) → slice_get c.as_slice-3.result.now n ≡ Some e → IsBeginCited table e) = subst (λ (t : List Cited). Decides b ((n : ℕ) (e : TreeEntry) → slice_get c.as_slice-3.result.now n ≡ Some e → IsBeginCited t e)) c.as_slice-2.ensures.value c.are_begins_cited-all.ensures in
    begins_of s r table b fits c.in_ok-table.ensures (subst (λ (tree : List TreeEntry). Decides b ((n : ℕ) (e : TreeEntry) → slice_get tree n ≡ Some e → IsBeginCited table e)) c.as_slice-3.ensures noted)
