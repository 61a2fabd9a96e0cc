-- SPDX-License-Identifier: GPL-2.0-only
use Rattle.shr_audit_lists.proofs.BagCommon.{◌≡◌, ◌++◌, [], List, ap, ◌∙◌, flat_map, PlaceEnd, Entry, Place, added_by_all, journals_of, flat_all}
use Rattle.shr_audit_lists.proofs.BagLaw.{by_places}
use Rattle.shr_audit_lists.proofs.noted.added_serials.Goals as goal
use Rattle.shr_model.proofs.Lists.{flat_more}

pub loop-end-init : goal.loop-end-init
loop-end-init c = c.new-serials.ensures.items

pub loop-end-preserved : goal.loop-end-preserved
loop-end-preserved c = flat_more (λ (end : PlaceEnd). added_by_all (journals_of c.args.report.now end.place)) c.as_slice-end-items.result.now c.loop-end.end-index c.end-item.result [] c.loop-end.serials.items c.note_journal.new.serials.items c.loop-end-test.true c.end-item.is c.loop-end.invariant
    (c.in_ok-note_journal.ensures ∙ ap (λ (es : List Entry). c.loop-end.serials.items ++ added_by_all es) c.journal_at.ensures)

pub returns : goal.returns
returns c = flat_all (λ (end : PlaceEnd). added_by_all (journals_of c.args.report.now end.place)) c.as_slice-end-items.result.now c.loop-end.end-index [] c.loop-end.serials.items c.loop-end-test.false c.loop-end.invariant
    ∙ (ap (flat_map (λ (end : PlaceEnd). added_by_all (journals_of c.args.report.now end.place))) c.as_slice-end-items.ensures ∙ by_places (λ (p : Place). added_by_all (journals_of c.args.report.now p)) c.args.report.now.places.items)
