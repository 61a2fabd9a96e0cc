-- SPDX-License-Identifier: GPL-2.0-only
use Rattle.shr_audit_case.proofs.Common.{◌-◌, get_or, subst, sym, ap, ◌∙◌, arith, Decides, slice_get-get_or, get_or_from_slice_get, PlaceEnd, IsFirst, comes_before}
use Rattle.shr_audit_case.proofs.Order.{first_decided}
use Rattle.shr_audit_case.proofs.places.is_first.Goals as goal

pub returns-else-k-eq0 : goal.returns-else-k-eq0
returns-else-k-eq0 c = λ end at.
    let ends = c.args.ends.now in
    let k = c.args.k in
    let there = c.requires.there in
    let x = get_or ends (k - 1) c.index-ends-k.result in
    let is = c.comes_before.ensures ∙ ap (λ (e : PlaceEnd). comes_before x.place e.place) (get_or_from_slice_get ends k end c.index-ends-k-else-k-eq0.result at) in
    subst (λ b. Decides b (IsFirst ends k end.place)) (sym is)
    (first_decided ends c.requires.order k (omega arith) x end (slice_get-get_or ends (k - 1) c.index-ends-k.result (omega arith)) at)
