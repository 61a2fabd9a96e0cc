-- SPDX-License-Identifier: GPL-2.0-only
use Rattle.shr_plain.proofs.Common.{◌≡◌, ℕ, ◌*◌, List, [], ◌∷◌, ap, subst, sym, ◌∙◌, Allows, rest, Sizes, with_room_given, Slot, IsPools, with_part, part_of, UnitsSat, UnitSeat}
use Rattle.shr_plain.proofs.Holding.{pools_unlocks}
use Rattle.shr_plain.proofs.SeatLaws.{became, like}
use Rattle.shr_plain.proofs.table.Pools.give.Goals as goal

pub exchange-requires : goal.exchange-requires
exchange-requires c = let slot = c.requires.taken in (c.requires.seat.same, (slot.0, slot.1 ∙ ap (λ (l : List (ℕ × Slot)). (c.args.room, slot.0) ∷ l) (sym (ap (rest {S = Slot}) slot.1))))

pub free_as-requires-clause-step : goal.free_as-requires-clause-step
free_as-requires-clause-step c = let d = c.args.self.now in let t = d.table.shared in let v = c.args.seat.now.me.0 in let id = c.exchange.new.seat.id in let i = c.args.room in
    let is : c.exchange.new.seat.me ≡ (v, (i, c.args.slot) ∷ []) = c.exchange.ensures.3 ∙ ap (λ (l : List (ℕ × Slot)). (v, (i, c.args.slot) ∷ l)) (ap (rest {S = Slot}) c.requires.taken.1) in
    subst (λ (m : UnitsSat). Allows (IsPools t.key) t.table_id.slots id m (8 * i) (λ _. 0) (λ _ r. r ≡ (with_part m.0 i (with_room_given (part_of m.0 i)), []))) (sym is)
    (subst (λ (k : Sizes). Allows (IsPools k) t.table_id.slots id (v, (i, c.args.slot) ∷ []) (8 * i) (λ _. 0) (λ _ r. r ≡ (with_part v i (with_room_given (part_of v i)), []))) (sym d.keyed)
    (pools_unlocks d.sizes t.table_id.slots id v c.requires.seat.here i c.requires.room c.args.slot d.slots c.requires.hand c.requires.same))

pub returns : goal.returns
returns c = let s = c.args.seat.now in let t = c.exchange.new.seat in let did = c.exchange.ensures in let i = c.args.room in record {
  given = became t c.free_as.new.seat _ c.free_as.ensures.told ∙ (ap (λ (x : UnitSeat). record x { me = (with_part t.me.0 i (with_room_given (part_of t.me.0 i)), []) }) (like s t did.0 did.1)
      ∙ ap (λ (m : UnitsSat). record s { me = (with_part m.0 i (with_room_given (part_of m.0 i)), []) }) did.3);
}
