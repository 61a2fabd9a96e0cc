-- SPDX-License-Identifier: GPL-2.0-only
use Rattle.shr_audit_tables.proofs.Common.{◌<◌, ◌^◌, ℕ, ◌++◌, List, ap, subst, sym, ◌∙◌, flat_map, EachItem, each_in, part_draws}
use Rattle.shr_audit_tables.proofs.DrawnParts.{drawn_of}
use Rattle.shr_audit_tables.proofs.draws.is_drawn.Goals as goal

pub returns : goal.returns
returns c =
    let r = c.args.report.now in
    let low = subst (λ (ls : List ℕ). EachItem (λ (l : ℕ). l < 2 ^ 32) ls) (sym c.as_slice-3.ensures) (each_in (λ (l : ℕ). l < 2 ^ 32) r.lookups.items c.requires.well.numbers) in
    let keys_are = c.as_slice-2.ensures.value ∙ c.in_ok-note_parts.ensures ∙ ap (λ a. a ++ flat_map part_draws c.as_slice.result.now) c.new-keys.ensures.items ∙ ap (flat_map part_draws) c.as_slice.ensures in
    drawn_of r c.as_slice-2.result.now c.as_slice-3.result.now _ c.requires.numbers low keys_are c.as_slice-3.ensures c.in_ok-drawn.ensures
