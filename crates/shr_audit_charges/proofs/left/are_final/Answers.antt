-- SPDX-License-Identifier: GPL-2.0-only
use Rattle.shr_audit_charges.proofs.Common.{false, ◌++◌, List, ℕ, ap, subst, ◌∙◌, flat_map, Decides, AreBalanced, up_keys, down_keys}
use Rattle.shr_audit_charges.proofs.LeftLaw.{final_decided}
use Rattle.shr_audit_charges.proofs.left.are_final.Goals as goal

pub returns : goal.returns
returns c =
    let us = c.in_ok-note_ups.ensures ∙ ap (λ (l : List ℕ). l ++ flat_map (up_keys false) c.args.uses.now) c.new-ups.ensures.items in
    let ds = c.in_ok-note_downs.ensures ∙ ap (λ (l : List ℕ). l ++ flat_map (down_keys false) c.args.uses.now) c.new-downs.ensures.items in
    let b = c.in_ok-balanced.balanced in
    let decided : Decides b (AreBalanced c.note_ups.new.keys.items c.note_left.new.keys.items) = subst (λ (l : List ℕ). Decides b (AreBalanced l c.note_left.new.keys.items)) c.as_slice-2.ensures.value (subst (λ (l : List ℕ). Decides b (AreBalanced c.as_slice-2.result.now l)) c.as_slice-3.ensures.value c.in_ok-balanced.ensures) in
    final_decided c.args.case.now.parents.items c.args.report.now c.args.uses.now c.as_slice.result.now c.note_ups.new.keys.items c.note_downs.new.keys.items c.note_left.new.keys.items b c.requires.tree c.requires.there c.as_slice.ensures us ds c.in_ok-note_left.ensures decided
