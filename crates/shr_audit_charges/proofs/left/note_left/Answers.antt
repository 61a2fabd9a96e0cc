-- SPDX-License-Identifier: GPL-2.0-only
use Rattle.shr_audit_charges.proofs.Common.{◌++◌, List, ℕ, ap, subst, sym, ◌∙◌, flat_map, PlaceEnd, IsTree, left_keys, tag_keys, flat_all}
use Rattle.shr_audit_case.specs.declared.tags.Tag.{Tag}
use Rattle.shr_audit_charges.proofs.left.note_left.Goals as goal
use Rattle.shr_model.proofs.Lists.{flat_more}

pub note_tags-requires : goal.note_tags-requires
note_tags-requires c = subst IsTree (sym c.as_slice.ensures.value) c.requires.tree

pub loop-end-preserved : goal.loop-end-preserved
loop-end-preserved c =
    let added = c.in_ok-note_tags.ensures ∙ ap (λ (ps : List ℕ). c.loop-end.keys.items ++ flat_map (tag_keys ps) c.left.result.now) c.as_slice.ensures.value ∙ ap (λ (ts : List Tag). c.loop-end.keys.items ++ flat_map (tag_keys c.args.case.now.parents.items) ts) c.left.ensures in
    flat_more (λ (end : PlaceEnd). left_keys c.args.case.now.parents.items c.args.report.now end.place) c.args.ends.now c.loop-end.end-index c.end-item.result c.args.keys.now.items c.loop-end.keys.items c.note_tags.new.keys.items c.loop-end-test.true c.end-item.is c.loop-end.invariant added

pub returns : goal.returns
returns c = flat_all (λ (end : PlaceEnd). left_keys c.args.case.now.parents.items c.args.report.now end.place) c.args.ends.now c.loop-end.end-index c.args.keys.now.items c.loop-end.keys.items c.loop-end-test.false c.loop-end.invariant
