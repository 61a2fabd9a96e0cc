-- SPDX-License-Identifier: GPL-2.0-only
use Rattle.shr_plain.proofs.Common.{ℕ, List, ◌∷◌, ap, sym, ◌∙◌, rest, Slot, UnitsSat, UnitSeat}
use Rattle.shr_plain.proofs.Holding.{has_room}
use Rattle.shr_plain.proofs.SeatLaws.{like}
use Rattle.shr_plain.proofs.table.Pools.take.Goals as goal

pub exchange-requires : goal.exchange-requires
exchange-requires g c = let took = c.if-try_take.ensures.taken in let slots = ap (λ (x : UnitsSat). x.1) took.did.seat in
    (ap (λ (x : UnitSeat). x.table_id) took.same ∙ (ap (λ (x : UnitSeat). x.table_id) c.loop-turn.invariant ∙ c.requires.seat.seat.same), (took.did.room, slots ∙ ap (λ (l : List (ℕ × Slot)). (c.args.room, took.did.room) ∷ l) (sym (ap (rest {S = Slot}) slots))))

pub returns-then-try_take : goal.returns-then-try_take
returns-then-try_take g c = let took = c.if-try_take.ensures.taken in let inv = c.loop-turn.invariant in let did = c.exchange.ensures in record {
  taken = record {
    same = like c.args.seat.now c.exchange.new.seat (did.0 ∙ (ap (λ (x : UnitSeat). x.table_id) took.same ∙ ap (λ (x : UnitSeat). x.table_id) inv)) (did.1 ∙ (ap (λ (x : UnitSeat). x.id) took.same ∙ ap (λ (x : UnitSeat). x.id) inv));
    did = has_room _ _ _ _ _ _ _ (ap (λ (x : UnitSeat). x.me) inv) took.did did.2 did.3;
  };
}
