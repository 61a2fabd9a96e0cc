-- SPDX-License-Identifier: GPL-2.0-only
use Rattle.shr_audit_case.proofs.Common.{◌≡◌, Some, ◌∙◌, sym, ap, subst, arith, slice_get, List, slice_get-get_or, PlaceEnd, Replayed, IsIndexOf}
use Rattle.shr_audit_case.proofs.Telling.{tells_some}
use Rattle.shr_audit_case.proofs.case.Case.replay.Goals as goal

pub returns-in-Some : goal.returns-in-Some
returns-in-Some c =
    let ends = c.args.report.now.places.items in
    let told = c.args.self.now.replays.items in
    let index : IsIndexOf ends c.args.place c.in-Some.k = subst (λ (es : List PlaceEnd). IsIndexOf es c.args.place c.in-Some.k) c.as_slice.ensures c.in-Some.ensures.some in
    let within = index.within in
    let many = c.requires.replays.count in
    let here : slice_get told c.in-Some.k ≡ Some c.index.result.now = slice_get-get_or told c.in-Some.k c.index.result.now (omega arith) ∙ ap (λ (r : Replayed). Some r) (sym c.index.ensures) in
    tells_some c.args.self.now.parents.items ends told c.args.place c.in-Some.k c.index.result.now c.requires.replays index here
