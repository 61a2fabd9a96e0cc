-- SPDX-License-Identifier: GPL-2.0-only
use Rattle.shr_audit_charges.proofs.Common.{◌++◌, List, ℕ, ap, subst, sym, ◌∙◌, flat_map, PlaceEnd, Entry, IsTree, FreedTag, journals_of, freed_keys, place_keys, flat_all}
use Rattle.shr_audit_charges.proofs.nets.note_lists.Goals as goal
use Rattle.shr_model.proofs.Lists.{flat_more}

pub note_freed-requires : goal.note_freed-requires
note_freed-requires c = subst IsTree (sym c.as_slice.ensures.value) c.requires.tree

pub loop-end-preserved : goal.loop-end-preserved
loop-end-preserved c =
    let added = c.in_ok-note_freed.ensures ∙ ap (λ (ps : List ℕ). c.loop-end.keys.items ++ flat_map (freed_keys ps c.args.report.now c.journal_at-entries.result.now) c.freed-tags.result.now) c.as_slice.ensures.value
    ∙ ap (λ (es : List Entry). c.loop-end.keys.items ++ flat_map (freed_keys c.args.case.now.parents.items c.args.report.now es) c.freed-tags.result.now) c.journal_at-entries.ensures
    ∙ ap (λ (ts : List FreedTag). c.loop-end.keys.items ++ flat_map (freed_keys c.args.case.now.parents.items c.args.report.now (journals_of c.args.report.now c.end-item.result.place)) ts) c.freed-tags.ensures in
    flat_more (λ (end : PlaceEnd). place_keys c.args.case.now.parents.items c.args.report.now end.place) c.args.ends.now c.loop-end.end-index c.end-item.result c.args.keys.now.items c.loop-end.keys.items c.note_freed.new.keys.items c.loop-end-test.true c.end-item.is c.loop-end.invariant added

pub returns : goal.returns
returns c = flat_all (λ (end : PlaceEnd). place_keys c.args.case.now.parents.items c.args.report.now end.place) c.args.ends.now c.loop-end.end-index c.args.keys.now.items c.loop-end.keys.items c.loop-end-test.false c.loop-end.invariant
