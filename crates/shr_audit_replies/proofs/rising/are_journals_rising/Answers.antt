-- SPDX-License-Identifier: GPL-2.0-only
use Rattle.shr_audit_replies.proofs.Common.{[], List, subst, arith, Decides, slice_get_within, PlaceEnd, EachFirst, AreCommandsRising}
use Rattle.shr_audit_case.proofs.Eachs.{each_place_of}
use Rattle.shr_audit_replies.proofs.rising.are_journals_rising.Goals as goal

pub returns : goal.returns
returns c =
    let b = c.in_ok-all.all in
    each_place_of c.args.report.now (λ place entries. AreCommandsRising entries) (λ place n m d e by later lt first second. absurd (let none = slice_get_within [] m e second in omega (arith, none))) b
    (subst (λ (ends : List PlaceEnd). Decides b (EachFirst ends (λ end. AreCommandsRising end.entries.items))) c.as_slice.ensures c.in_ok-all.ensures)
