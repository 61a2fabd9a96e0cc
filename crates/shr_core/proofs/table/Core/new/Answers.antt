-- SPDX-License-Identifier: GPL-2.0-only
use Rattle.shr_core.proofs.Common.{ℕ, List, ap, ◌∙◌, subst, sym, arith, row_count, opening, Setting, Sound, opener}
use Rattle.shr_core.proofs.Openings.{opens}
use Rattle.shr_core.proofs.table.Core.new.Goals as goal

pub new-requires : goal.new-requires
new-requires c = let rows = c.rows-rooms.ensures.rows ∙ ap row_count c.sizes.ensures in let w = c.in_ok-words.ensures in let r = c.in_ok-slots.ensures in let key : Setting = record { shape = c.args.shape; first_lookup = c.args.first_lookup } in
    subst (λ (ws : List ℕ). Sound key (opening ws c.in_ok-slots.slots.items opener)) (sym c.deref.ensures.value) (opens key _ _ c.requires.shape c.ranges.first_lookup.fits (omega (arith, w.0, rows)) (omega (arith, r.0, rows)) w.1 r.1)
