-- SPDX-License-Identifier: GPL-2.0-only
use Rattle.shr_audit_reasons.proofs.Common.{◌≡◌, ℕ, List, Some, slice_get, length, refl, Decides, PlaceEnd, EachFirst, IsFirst, EachItem, all_at, more_at, Report, IsDrainedRightly, slice_get_read, fails}
use Rattle.shr_audit_replies.proofs.Deciding.{first_part}
use Rattle.shr_audit_reasons.proofs.drains.are_lists_drained_rightly.Goals as goal

abbrev whole : Report → PlaceEnd → Type 0
whole r end = EachItem (λ e. IsDrainedRightly r e) end.entries.items

abbrev part : Report → List PlaceEnd → ℕ → PlaceEnd → Type 0
part r ends k end = IsFirst ends k end.place → whole r end

pub returns-then-not-is_list_drained_rightly : goal.returns-then-not-is_list_drained_rightly
returns-then-not-is_list_drained_rightly c =
    let r = c.args.report.now in
    let ends = c.args.ends.now in
    let k = c.loop-k.k in
    let end = c.index-ends-k.result in
    let b = c.is_list_drained_rightly.result in
    let at : slice_get ends k ≡ Some end = slice_get_read ends (length ends) k end refl c.loop-k-test.true c.index-ends-k.is in
    fails (part r ends k end) (EachFirst ends (whole r)) b (first_part ends k end (whole r end) c.is_first-first.result b (c.is_first-first.ensures end at) c.is_list_drained_rightly.ensures) c.if-not-is_list_drained_rightly.true (λ all. all k end at)

pub loop-k-preserved : goal.loop-k-preserved
loop-k-preserved c =
    let r = c.args.report.now in
    let ends = c.args.ends.now in
    let k = c.loop-k.k in
    let end = c.index-ends-k.result in
    let b = c.is_list_drained_rightly.result in
    let at : slice_get ends k ≡ Some end = slice_get_read ends (length ends) k end refl c.loop-k-test.true c.index-ends-k.is in
    let here : Decides b (part r ends k end) = first_part ends k end (whole r end) c.is_first-first.result b (c.is_first-first.ensures end at) c.is_list_drained_rightly.ensures in
    more_at (part r ends) ends k end c.loop-k-test.true c.index-ends-k.is c.loop-k.invariant (here.0 c.if-not-is_list_drained_rightly.false)

pub returns : goal.returns
returns c = all_at (part c.args.report.now c.args.ends.now) c.args.ends.now c.loop-k.k c.loop-k-test.false c.loop-k.invariant
