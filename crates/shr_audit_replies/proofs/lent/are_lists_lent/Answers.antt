-- SPDX-License-Identifier: GPL-2.0-only
use Rattle.shr_audit_replies.proofs.LendingCommon.{◌≡◌, ℕ, List, Some, length, refl, slice_get, Decides, slice_get_read, PlaceEnd, EachFirst, IsFirst, all_at, fails, more_at, Report, AreValuesLentAt}
use Rattle.shr_audit_replies.proofs.Deciding.{first_part}
use Rattle.shr_audit_replies.proofs.lent.are_lists_lent.Goals as goal

abbrev part : List ℕ → Report → List PlaceEnd → ℕ → PlaceEnd → Type 0
part parents r ends k end = IsFirst ends k end.place → AreValuesLentAt parents r end.place

pub returns-then-not-is_list_lent : goal.returns-then-not-is_list_lent
returns-then-not-is_list_lent c =
    let parents = c.args.case.now.parents.items in
    let r = c.args.report.now in
    let ends = c.args.ends.now in
    let k = c.loop-k.k in
    let end = c.index-ends-k.result in
    let there : slice_get ends k ≡ Some end = slice_get_read ends (length ends) k end refl c.loop-k-test.true c.index-ends-k.is in
    let here : Decides c.is_list_lent.result (part parents r ends k end) = first_part ends k end (AreValuesLentAt parents r end.place) c.is_first-first.result c.is_list_lent.result (c.is_first-first.ensures end there) c.is_list_lent.ensures in
    fails (part parents r ends k end) (EachFirst ends (λ (x : PlaceEnd). AreValuesLentAt parents r x.place)) c.is_list_lent.result here c.if-not-is_list_lent.true (λ all. all k end there)

pub loop-k-preserved : goal.loop-k-preserved
loop-k-preserved c =
    let parents = c.args.case.now.parents.items in
    let r = c.args.report.now in
    let ends = c.args.ends.now in
    let k = c.loop-k.k in
    let end = c.index-ends-k.result in
    let there : slice_get ends k ≡ Some end = slice_get_read ends (length ends) k end refl c.loop-k-test.true c.index-ends-k.is in
    let here : Decides c.is_list_lent.result (part parents r ends k end) = first_part ends k end (AreValuesLentAt parents r end.place) c.is_first-first.result c.is_list_lent.result (c.is_first-first.ensures end there) c.is_list_lent.ensures in
    more_at (part parents r ends) ends k end c.loop-k-test.true c.index-ends-k.is c.loop-k.invariant (here.0 c.if-not-is_list_lent.false)

pub returns : goal.returns
returns c = all_at (part c.args.case.now.parents.items c.args.report.now c.args.ends.now) c.args.ends.now c.loop-k.k c.loop-k-test.false c.loop-k.invariant
