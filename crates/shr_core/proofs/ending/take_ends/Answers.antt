-- SPDX-License-Identifier: GPL-2.0-only
use Rattle.shr_core.proofs.Common.{◌≡◌, ◌≢◌, ℕ, Bool, false, List, ◌++◌, map, get_or, sym, refl, ap, ◌∙◌, arith, get_or-set_same, get_or-set_other, dite, ℕ_discrete, slots_items, slots_filled, Slot, end_value, place_ends, entries_in, items_in, place_number, Sizes, slots_counts}
use Rattle.shr_core.proofs.Endings.{rows_none, rows_more, rows_all}
use Rattle.shr_core.proofs.ending.take_ends.Goals as goal

pub loop-row-init : goal.loop-row-init
loop-row-init c = let slots = slots_items c.args.ended.now.slots in
    (refl, refl, refl, c.requires.full, (λ k h. absurd (omega (arith, h))), λ _. ap (map end_value) (c.reserve_exact.ensures.items ∙ c.new-ends.ensures.items) ∙ rows_none c.args.sizes (entries_in c.args.sizes slots) (items_in c.args.sizes slots) c.requires.some.0 c.requires.some.1)

pub loop-row-preserved : goal.loop-row-preserved
loop-row-preserved c =
    let inv = c.loop-row.invariant in let o = c.take-slot.ensures.others in let n : ℕ = c.loop-row.row in let was : List Bool = slots_filled c.loop-row.ended.slots in
    let first : List Slot = slots_items c.args.ended.now.slots in
    let other : (k : ℕ) → k ≢ n → get_or (slots_filled c.take-slot.new.self.slots) k false ≡ get_or was k false = λ k ne. ap (λ (l : List Bool). get_or l k false) o.1 ∙ get_or-set_other was n k false false ne in
    let here : get_or (slots_filled c.take-slot.new.self.slots) n false ≡ false = ap (λ (l : List Bool). get_or l n false) o.1 ∙ get_or-set_same was n false false (omega (arith, (slots_counts c.loop-row.ended.slots).1, inv.1, c.loop-row-test.true, c.requires.rooms, c.rows-row-end.ensures.rows)) in
    let value = ap (λ (l : List Slot). lib.ListN.get_elem? l n) (sym inv.0) ∙ c.take-slot.ensures.value in (
      o.0 ∙ inv.0,
      o.2 ∙ inv.1,
      o.3 ∙ inv.2,
      (λ k low high. other k (λ e. omega (arith, e, low)) ∙ inv.3 k (omega (arith, low)) (omega (arith, high, o.2))),
      (λ k low. dite (ℕ_discrete k n) (λ e. ap (λ (x : ℕ). get_or (slots_filled c.take-slot.new.self.slots) x false) e ∙ here) (λ ne. other k ne ∙ inv.4 k (omega (arith, low, ne)))),
      (λ yes-all. let w = c.add_where-whole.ensures in let z : Sizes = c.args.sizes in w.added yes-all ∙ (ap (λ (x : ℕ). map end_value c.loop-row.ends.items ++ place_ends x c.take-slot.result.list.entries c.take-slot.result.list.items) (ap place_number c.place.ensures)
          ∙ rows_more z n first (map end_value c.loop-row.ends.items) c.take-slot.result c.requires.some.0 c.requires.few.0 c.requires.some.1 c.requires.few.1 value (inv.5 (w.whole yes-all)))),
    )

pub returns-then-whole-clause-ends : goal.returns-then-whole-clause-ends
returns-then-whole-clause-ends c = let z : Sizes = c.args.sizes in let first : List Slot = slots_items c.args.ended.now.slots in
    c.loop-row.invariant.5 c.if-whole.true ∙ rows_all z (entries_in z first) (items_in z first) c.loop-row.row c.requires.some.0 c.requires.some.1 (omega (arith, c.rows-row-end.ensures.rows, c.loop-row.auto.row-end, c.loop-row-test.false))
