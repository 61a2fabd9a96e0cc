-- SPDX-License-Identifier: GPL-2.0-only
use Rattle.shr_plain.proofs.Common.{◌≡◌, ◌≢◌, ℕ, Bool, false, List, ◌++◌, map, get_or, sym, refl, ap, ◌∙◌, arith, dite, ℕ_discrete, slots_items, slots_filled, Sizes, Place, Slot, units_end_value, units_ends, units_ends_below, entries_at, get_or-set_same, get_or-set_other, slots_counts}
use Rattle.shr_seats.proofs.RowLaws.{place_inside}
use Rattle.shr_plain.proofs.Endings.{ends_none, ends_more}
use Rattle.shr_plain.proofs.ending.take_ends.Goals as goal

pub loop-row-init : goal.loop-row-init
loop-row-init c = (refl, refl, c.requires.full, (λ k h. absurd (omega (arith, h))), λ _. ap (map units_end_value) c.new-ends.ensures.items ∙ ends_none c.args.sizes (entries_at (slots_items c.args.closed.now.slots)))

pub add_where-whole-requires : goal.add_where-whole-requires
add_where-whole-requires c = let row = c.loop-row-test.true in let rows = c.rows-row-end.ensures.rows in let few = c.requires.few in let at = ap (λ (p : Place). p.id) c.place.ensures in
    let low = (place_inside c.args.sizes c.loop-row.row c.requires.some.0 c.requires.some.1 (omega (arith, row, rows))).id in omega (arith, at, low, few)

pub loop-row-preserved : goal.loop-row-preserved
loop-row-preserved c =
    let inv = c.loop-row.invariant in let o = c.take-slot.ensures.others in let n : ℕ = c.loop-row.row in let was : List Bool = slots_filled c.loop-row.closed.slots in
    let first : List Slot = slots_items c.args.closed.now.slots in
    let other : (k : ℕ) → k ≢ n → get_or (slots_filled c.take-slot.new.self.slots) k false ≡ get_or was k false = λ k ne. ap (λ (l : List Bool). get_or l k false) o.1 ∙ get_or-set_other was n k false false ne in
    let here : get_or (slots_filled c.take-slot.new.self.slots) n false ≡ false = ap (λ (l : List Bool). get_or l n false) o.1 ∙ get_or-set_same was n false false (omega (arith, (slots_counts c.loop-row.closed.slots).1, inv.1, c.loop-row-test.true, c.requires.rooms, c.rows-row-end.ensures.rows)) in
    let value = ap (λ (l : List Slot). lib.ListN.get_elem? l n) (sym inv.0) ∙ c.take-slot.ensures.value in (
      o.0 ∙ inv.0,
      o.2 ∙ inv.1,
      (λ k low high. other k (λ e. omega (arith, e, low)) ∙ inv.2 k (omega (arith, low)) (omega (arith, high, o.2))),
      (λ k low. dite (ℕ_discrete k n) (λ e. ap (λ (x : ℕ). get_or (slots_filled c.take-slot.new.self.slots) x false) e ∙ here) (λ ne. other k ne ∙ inv.3 k (omega (arith, low, ne)))),
      (λ yes-all. let w = c.add_where-whole.ensures in let z : Sizes = c.args.sizes in w.added yes-all ∙ (ap (λ (p : Place). map units_end_value c.loop-row.ends.items ++ units_ends p c.take-slot.result.journal.items) c.place.ensures
          ∙ ends_more z n first (map units_end_value c.loop-row.ends.items) c.take-slot.result value (inv.4 (w.whole yes-all)))),
    )

pub returns-then-whole-clause-ends : goal.returns-then-whole-clause-ends
returns-then-whole-clause-ends c = let first : List Slot = slots_items c.args.closed.now.slots in
    c.loop-row.invariant.4 c.if-whole.true ∙ ap (λ (n : ℕ). units_ends_below c.args.sizes n (entries_at first)) (omega (arith, c.rows-row-end.ensures.rows, c.loop-row.auto.row-end, c.loop-row-test.false))
