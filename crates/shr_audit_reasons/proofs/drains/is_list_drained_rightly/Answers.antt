-- SPDX-License-Identifier: GPL-2.0-only
use Rattle.shr_audit_reasons.proofs.Common.{List, subst, Decides, Entry, EachItem, IsDrainedRightly}
use Rattle.shr_audit_reasons.proofs.drains.is_list_drained_rightly.Goals as goal

pub returns : goal.returns
returns c =
    let r = c.args.report.now in
    let b = c.are_drained_rightly-all.result in
    let all : Decides b (EachItem (λ e. IsDrainedRightly r e) c.args.end.now.entries.items) = subst (λ (es : List Entry). Decides b (EachItem (λ e. IsDrainedRightly r e) es)) c.as_slice.ensures c.are_drained_rightly-all.ensures in
    (λ t first. all.0 t, λ h. all.1 (h c.if-not-first.false))
