-- SPDX-License-Identifier: GPL-2.0-only
use Rattle.shr_charge.proofs.Common.{◌≡◌, ◌<◌, true, sym, subst, arith, ChargeSeated, standing_of}
use Rattle.shr_charge.proofs.Seating.{splits}
use Rattle.shr_charge.proofs.table.ChargeSeat.split.Goals as goal

pub split_seat-token-requires : goal.split_seat-token-requires
split_seat-token-requires c = let is = c.self.invariant in let wide = c.self.inside.charge.now.wide in (
  is.seat.same,
  omega (arith, wide),
  splits _ _ c.self.inside.token.me.0 (subst (λ (v : ChargeSeated). (standing_of v).first ≡ true) (sym c.self.view_is) c.requires.first) is.seat.here (subst (λ (v : ChargeSeated). (standing_of v).splits < 64) (sym c.self.view_is) c.requires.few),
)
