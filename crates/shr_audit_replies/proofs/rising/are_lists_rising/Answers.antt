-- SPDX-License-Identifier: GPL-2.0-only
use Rattle.shr_audit_replies.proofs.Common.{◌≡◌, ℕ, List, Some, slice_get, length, refl, arith, Decides, slice_get_read, PlaceEnd, EachFirst, IsFirst, all_at, fails, more_at, AreCommandsRising}
use Rattle.shr_audit_replies.proofs.Deciding.{first_part}
use Rattle.shr_audit_replies.proofs.rising.are_lists_rising.Goals as goal

abbrev whole : PlaceEnd → Type 0
whole end = AreCommandsRising end.entries.items

abbrev part : List PlaceEnd → ℕ → PlaceEnd → Type 0
part ends k end = IsFirst ends k end.place → whole end

pub loop-k-init : goal.loop-k-init
loop-k-init c = record {
  below = c.in_ok-seen.ensures;
  rising = λ j end lt. absurd (omega (arith, lt));
}

pub returns-then-not-is_list_rising : goal.returns-then-not-is_list_rising
returns-then-not-is_list_rising c =
    let ends = c.args.ends.now in
    let k = c.loop-k.k in
    let end = c.index-ends-k.result in
    let at : slice_get ends k ≡ Some end = slice_get_read ends (length ends) k end refl c.loop-k-test.true c.index-ends-k.is in
    fails (part ends k end) (EachFirst ends whole) c.is_list_rising.result (first_part ends k end (whole end) c.is_first-first.result c.is_list_rising.result (c.is_first-first.ensures end at) c.is_list_rising.ensures.rising) c.if-not-is_list_rising.true (λ all. all k end at)

pub loop-k-preserved : goal.loop-k-preserved
loop-k-preserved c =
    let ends = c.args.ends.now in
    let k = c.loop-k.k in
    let end = c.index-ends-k.result in
    let at : slice_get ends k ≡ Some end = slice_get_read ends (length ends) k end refl c.loop-k-test.true c.index-ends-k.is in
    let here : Decides c.is_list_rising.result (part ends k end) = first_part ends k end (whole end) c.is_first-first.result c.is_list_rising.result (c.is_first-first.ensures end at) c.is_list_rising.ensures.rising in
    record {
      below = c.is_list_rising.ensures.seen c.if-not-is_list_rising.false;
      rising = more_at (part ends) ends k end c.loop-k-test.true c.index-ends-k.is c.loop-k.invariant.rising (here.0 c.if-not-is_list_rising.false);
    }

pub returns : goal.returns
returns c = all_at (part c.args.ends.now) c.args.ends.now c.loop-k.k c.loop-k-test.false c.loop-k.invariant.rising
