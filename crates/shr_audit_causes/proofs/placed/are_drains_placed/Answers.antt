-- SPDX-License-Identifier: GPL-2.0-only
use Rattle.shr_audit_causes.proofs.UnregistersCommon.{List, subst, Decides, PlaceEnd, EachFirst, EachItem, IsDrainPlaced}
use Rattle.shr_audit_case.proofs.Eachs.{each_entry_of}
use Rattle.shr_audit_causes.proofs.placed.are_drains_placed.Goals as goal

pub returns : goal.returns
returns c =
    let s = c.args.script.now in
    let r = c.args.report.now in
    let b = c.are_lists_placed-all.result in
    each_entry_of r (λ place n e. IsDrainPlaced s r place e) b
    (subst (λ (ends : List PlaceEnd). Decides b (EachFirst ends (λ end. EachItem (λ e. IsDrainPlaced s r end.place e) end.entries.items))) c.as_slice.ensures c.are_lists_placed-all.ensures)
