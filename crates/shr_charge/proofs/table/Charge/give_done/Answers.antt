-- SPDX-License-Identifier: GPL-2.0-only
use Rattle.shr_charge.proofs.Common.{◌≡◌, ℕ, List, [], ◌∷◌, ap, subst, sym, ◌∙◌, arith, Allows, rest, Kept, TreeEntry, Shape, IsChargeSound, with_done, ChargeSat, ChargeToken, with_room_back}
use Rattle.shr_charge.proofs.SeatLaws.{token_is}
use Rattle.shr_charge.proofs.Moves.{gives_done}
use Rattle.shr_charge.proofs.Listing.{some_is}
use Rattle.shr_charge.proofs.table.Charge.give_done.Goals as goal

pub exchange-requires : goal.exchange-requires
exchange-requires c = let slot = c.requires.slot in (c.requires.seat.same, (slot.0, slot.1 ∙ ap (λ (l : List (ℕ × Kept TreeEntry)). (0, slot.0) ∷ l) (sym (ap (rest {S = Kept TreeEntry}) slot.1))))

pub store_as-requires : goal.store_as-requires
store_as-requires c = let d = c.args.self.now in let t = d.table.shared in let v = c.args.token.now.me.0 in let id = c.exchange.new.seat.id in let wide = d.wide in let begun = some_is _ c.requires.may.begun in
    let is : c.exchange.new.seat.me ≡ (v, (0, c.args.room) ∷ []) = c.exchange.ensures.3 ∙ ap (λ (l : List (ℕ × Kept TreeEntry)). (v, (0, c.args.room) ∷ l)) (ap (rest {S = Kept TreeEntry}) c.requires.slot.1) in record {
      table = c.exchange.ensures.0 ∙ c.requires.seat.same;
      word = omega (arith, wide);
      step = subst (λ (m : ChargeSat). Allows (IsChargeSound t.key) t.table_id.slots id m 0 (λ _. 0) (λ _ r. r ≡ (record m.0 { tree = with_done m.0.tree c.args.group }, []))) (sym is)
          (subst (λ (k : Shape). Allows (IsChargeSound k) t.table_id.slots id (v, (0, c.args.room) ∷ []) 0 (λ _. 0) (λ _ r. r ≡ (record v { tree = with_done v.tree c.args.group }, []))) (sym d.keyed) (gives_done d.shape t.table_id.slots id d.one_room v c.requires.seat.here c.requires.hand c.args.room c.args.group c.requires.group c.requires.may begun.0 begun.1 c.requires.home));
    }

pub returns : goal.returns
returns c = let did = c.exchange.ensures in let stored = c.store_as.ensures in
    record { given = token_is c.args.token.now c.store_as.new.token _ (ap (λ (t : ChargeToken). t.table_id) stored.same ∙ did.0) (ap (λ (t : ChargeToken). t.id) stored.same ∙ did.1) (stored.told ∙ ap (λ (m : ChargeSat). with_room_back m (with_done m.0.tree c.args.group)) did.3) }
