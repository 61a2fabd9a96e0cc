-- SPDX-License-Identifier: GPL-2.0-only
use Rattle.shr_audit_replies.proofs.Common.{◌≡◌, ℕ, List, Some, slice_get, subst, Decides, PlaceEnd, Entry, EachFirst, IsCited}
use Rattle.shr_audit_case.proofs.Eachs.{each_entry_of}
use Rattle.shr_audit_replies.proofs.cited.are_entries_cited.Goals as goal

pub returns : goal.returns
returns c =
    let r = c.args.report.now in
    let b = c.are_lists_cited-all.result in
    each_entry_of r (λ place n e. IsCited r place n e) b
    (subst (λ (ends : List PlaceEnd). Decides b (EachFirst ends (λ end. (n : ℕ) (e : Entry) → slice_get end.entries.items n ≡ Some e → IsCited r end.place n e))) c.as_slice.ensures c.are_lists_cited-all.ensures)
