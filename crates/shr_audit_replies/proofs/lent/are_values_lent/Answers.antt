-- SPDX-License-Identifier: GPL-2.0-only
use Rattle.shr_audit_replies.proofs.LendingCommon.{List, subst, Decides, PlaceEnd, EachFirst, AreValuesLentAt}
use Rattle.shr_audit_replies.proofs.Places.{each_place_lent}
use Rattle.shr_audit_replies.proofs.lent.are_values_lent.Goals as goal

pub returns : goal.returns
returns c =
    let parents = c.args.case.now.parents.items in
    let r = c.args.report.now in
    let b = c.are_lists_lent-lent.result in
    each_place_lent c.args.script.now r parents c.requires.parents b
    (subst (λ (ends : List PlaceEnd). Decides b (EachFirst ends (λ (x : PlaceEnd). AreValuesLentAt parents r x.place))) c.as_slice.ensures c.are_lists_lent-lent.ensures)
