-- SPDX-License-Identifier: GPL-2.0-only
use Rattle.shr_audit_replies.proofs.Common.{◌≡◌, ℕ, List, Some, slice_get, subst, Decides, Entry, IsCited}
use Rattle.shr_audit_replies.proofs.cited.is_list_cited.Goals as goal

pub returns : goal.returns
returns c =
    let r = c.args.report.now in
    let end = c.args.end.now in
    let b = c.are_cited-all.result in
    let all : Decides b ((n : ℕ) (e : Entry) → slice_get end.entries.items n ≡ Some e → IsCited r end.place n e) = subst (λ (es : List Entry). Decides b ((n : ℕ) (e : Entry) → slice_get es n ≡ Some e → IsCited r end.place n e)) c.as_slice.ensures c.are_cited-all.ensures in
    (λ t first. all.0 t, λ h. all.1 (h c.if-not-first.false))
