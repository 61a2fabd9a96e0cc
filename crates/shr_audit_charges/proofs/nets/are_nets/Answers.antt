-- SPDX-License-Identifier: GPL-2.0-only
use Rattle.shr_audit_charges.proofs.Common.{true, ◌<◌, ◌++◌, List, ℕ, ap, length, sym, subst, ◌∙◌, flat_map, Decides, AllByRecursion, UseStep, IsTree, AreBalanced, workers_keys, up_keys, down_keys}
use Rattle.shr_audit_charges.proofs.NetsWhole.{nets_decided}
use Rattle.shr_audit_charges.proofs.nets.are_nets.Goals as goal

pub returns : goal.returns
returns c =
    let same = c.requires.case.parents in
    let tree : IsTree c.args.case.now.parents.items = subst IsTree (sym same) c.requires.tree in
    let there : AllByRecursion (λ (o : UseStep). o.group < length c.args.case.now.parents.items) c.args.report.now.uses.items = subst (λ (ps : List ℕ). AllByRecursion (λ (o : UseStep). o.group < length ps) c.args.report.now.uses.items) (sym same) c.requires.there in
    let first = c.in_ok-note_ups.ensures ∙ ap (λ (l : List ℕ). l ++ flat_map (up_keys true) c.as_slice-uses.result.now) c.new-ups.ensures.items in
    let second = c.in_ok-note_downs.ensures ∙ ap (λ (l : List ℕ). l ++ flat_map (down_keys true) c.as_slice-uses.result.now) c.new-downs.ensures.items in
    let ds = c.in_ok-note_workers.ensures ∙ ap (λ (ps : List ℕ). c.note_downs.new.keys.items ++ workers_keys ps c.args.report.now 0 c.as_slice-workers.result.now) c.as_slice-2.ensures.value in
    let b = c.in_ok-balanced.balanced in
    let decided : Decides b (AreBalanced c.note_lists.new.keys.items c.note_workers.new.keys.items) = subst (λ (l : List ℕ). Decides b (AreBalanced l c.note_workers.new.keys.items)) c.as_slice-3.ensures.value (subst (λ (l : List ℕ). Decides b (AreBalanced c.as_slice-3.result.now l)) c.as_slice-4.ensures.value c.in_ok-balanced.ensures) in
    nets_decided c.args.script.now c.args.report.now c.args.case.now.parents.items c.as_slice-uses.result.now c.as_slice.result.now c.as_slice-workers.result.now c.note_ups.new.keys.items c.note_lists.new.keys.items c.note_downs.new.keys.items c.note_workers.new.keys.items b
    same tree c.requires.few c.requires.numbers there c.as_slice-uses.ensures c.as_slice.ensures c.as_slice-workers.ensures first c.in_ok-note_lists.ensures second ds decided
