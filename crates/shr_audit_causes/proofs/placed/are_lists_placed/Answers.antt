-- SPDX-License-Identifier: GPL-2.0-only
use Rattle.shr_audit_causes.proofs.UnregistersCommon.{◌≡◌, ℕ, List, Some, slice_get, length, refl, Decides, PlaceEnd, EachFirst, IsFirst, Script, EachItem, Report, IsDrainPlaced}
use Rattle.std.proofs.lemmas.Option.{slice_get_read}
use Rattle.shr_audit_formed.proofs.Eachs.{all_at, fails, more_at}
use Rattle.shr_audit_replies.proofs.Deciding.{first_part}
use Rattle.shr_audit_causes.proofs.placed.are_lists_placed.Goals as goal

abbrev whole : Script → Report → PlaceEnd → Type 0
whole s r end = EachItem (λ e. IsDrainPlaced s r end.place e) end.entries.items

abbrev part : Script → Report → List PlaceEnd → ℕ → PlaceEnd → Type 0
part s r ends k end = IsFirst ends k end.place → whole s r end

pub returns-then-not-is_list_placed : goal.returns-then-not-is_list_placed
returns-then-not-is_list_placed c =
    let s = c.args.script.now in
    let r = c.args.report.now in
    let ends = c.args.ends.now in
    let k = c.loop-k.k in
    let end = c.index-ends-k.result in
    let b = c.is_list_placed.result in
    let at : slice_get ends k ≡ Some end = slice_get_read ends (length ends) k end refl c.loop-k-test.true c.index-ends-k.is in
    fails (part s r ends k end) (EachFirst ends (whole s r)) b (first_part ends k end (whole s r end) c.is_first-first.result b (c.is_first-first.ensures end at) c.is_list_placed.ensures) c.if-not-is_list_placed.true (λ all. all k end at)

pub loop-k-preserved : goal.loop-k-preserved
loop-k-preserved c =
    let s = c.args.script.now in
    let r = c.args.report.now in
    let ends = c.args.ends.now in
    let k = c.loop-k.k in
    let end = c.index-ends-k.result in
    let b = c.is_list_placed.result in
    let at : slice_get ends k ≡ Some end = slice_get_read ends (length ends) k end refl c.loop-k-test.true c.index-ends-k.is in
    let here : Decides b (part s r ends k end) = first_part ends k end (whole s r end) c.is_first-first.result b (c.is_first-first.ensures end at) c.is_list_placed.ensures in
    more_at (part s r ends) ends k end c.loop-k-test.true c.index-ends-k.is c.loop-k.invariant (here.0 c.if-not-is_list_placed.false)

pub returns : goal.returns
returns c = all_at (part c.args.script.now c.args.report.now c.args.ends.now) c.args.ends.now c.loop-k.k c.loop-k-test.false c.loop-k.invariant
