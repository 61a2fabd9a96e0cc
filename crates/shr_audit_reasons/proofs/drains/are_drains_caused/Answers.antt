-- SPDX-License-Identifier: GPL-2.0-only
use Rattle.shr_audit_reasons.proofs.Common.{List, subst, Decides, PlaceEnd, EachFirst, EachItem, IsDrainedRightly, each_entry_of}
use Rattle.shr_audit_reasons.proofs.drains.are_drains_caused.Goals as goal

pub returns : goal.returns
returns c =
    let r = c.args.report.now in
    let b = c.are_lists_drained_rightly-all.result in
    each_entry_of r (λ place n e. IsDrainedRightly r e) b
    (subst (λ (ends : List PlaceEnd). Decides b (EachFirst ends (λ end. EachItem (λ e. IsDrainedRightly r e) end.entries.items))) c.as_slice.ensures c.are_lists_drained_rightly-all.ensures)
