-- SPDX-License-Identifier: GPL-2.0-only
use Rattle.shr_charge.proofs.Common.{◌≡◌, ℕ, true, sym, ap, subst, ◌∙◌, arith, Charge, ChargeSeated, ChargeToken, IsChargeSeat, standing_of}
use Rattle.shr_charge.proofs.Seating.{joins}
use Rattle.shr_charge.proofs.SeatLaws.{IsOf-join}
use Rattle.shr_charge.proofs.table.ChargeSeat.join.Goals as goal

-- the other is a seat of the same table
theirs : (c c' : Charge) (v u : ChargeSeated) (t : ChargeToken) (n d : ℕ) → c ≡ v.charge → c' ≡ u.charge → u.charge ≡ v.charge → IsChargeSeat c' t n d → IsChargeSeat c t n d
theirs c c' v u t n d mine other table is = subst (λ (x : Charge). IsChargeSeat x t n d) (other ∙ (table ∙ sym mine)) is

pub join_seat-requires : goal.join_seat-requires
join_seat-requires c = let is = c.self.invariant in let wide = c.self.inside.charge.now.wide in
    let other = theirs c.self.inside.charge.now _ c.args.self.now c.args.other _ _ _ (ap (λ (v : ChargeSeated). v.charge) c.self.view_is) (ap (λ (v : ChargeSeated). v.charge) c.other.view_is) c.requires.table c.other.invariant in (
      is.seat.same,
      other.seat.same,
      other.bare,
      omega (arith, wide),
      joins _ _ c.self.inside.token.me.0 _ c.other.inside.token.me.0 (subst (λ (v : ChargeSeated). (standing_of v).first ≡ true) (sym c.self.view_is) c.requires.first) is.seat.here other.seat.here other.out,
    )

pub invariant_of-self : goal.invariant_of-self
invariant_of-self c = let did = c.join_seat.ensures in
    let other = theirs c.self.inside.charge.now _ c.args.self.now c.args.other _ _ _ (ap (λ (v : ChargeSeated). v.charge) c.self.view_is) (ap (λ (v : ChargeSeated). v.charge) c.other.view_is) c.requires.table c.other.invariant in
    IsOf-join _ _ _ _ _ _ _ _ _ _ c.self.invariant other did.0 did.2 c.saturating_add-self-inside.ensures c.saturating_add-self-inside-2.ensures
