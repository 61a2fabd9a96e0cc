-- SPDX-License-Identifier: GPL-2.0-only
use Rattle.shr_audit_lists.proofs.BagCommon.{◌≡◌, ◌++◌, List, ap, ◌∙◌, flat_map, PlaceEnd, Place, Serial, freed_at, serials_of, journals_of, flat_all}
use Rattle.shr_audit_lists.proofs.BagLaw.{by_places}
use Rattle.shr_audit_lists.proofs.gone.note_all_freed.Goals as goal
use Rattle.shr_model.proofs.Lists.{flat_more}

pub loop-end-preserved : goal.loop-end-preserved
loop-end-preserved c = flat_more (λ (end : PlaceEnd). serials_of (freed_at c.args.case.now.parents.items (journals_of c.args.report.now) end.place)) c.as_slice-end-items.result.now c.loop-end.end-index c.end-item.result c.args.serials.now.items c.loop-end.serials.items c.note_freed_at.new.serials.items c.loop-end-test.true c.end-item.is
    c.loop-end.invariant c.in_ok-note_freed_at.ensures

pub returns : goal.returns
returns c = flat_all (λ (end : PlaceEnd). serials_of (freed_at c.args.case.now.parents.items (journals_of c.args.report.now) end.place)) c.as_slice-end-items.result.now c.loop-end.end-index c.args.serials.now.items c.loop-end.serials.items c.loop-end-test.false c.loop-end.invariant
    ∙ ap (λ (xs : List Serial). c.args.serials.now.items ++ xs)
    (ap (flat_map (λ (end : PlaceEnd). serials_of (freed_at c.args.case.now.parents.items (journals_of c.args.report.now) end.place))) c.as_slice-end-items.ensures ∙ by_places (λ (p : Place). serials_of (freed_at c.args.case.now.parents.items (journals_of c.args.report.now) p)) c.args.report.now.places.items)
