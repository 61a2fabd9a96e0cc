-- SPDX-License-Identifier: GPL-2.0-only
use Rattle.shr_core.proofs.Common.{subst, sym, arith, Splits, Setting, Sound, with_one_split, split_off}
use Rattle.shr_core.proofs.Seats.{splits}
use Rattle.shr_core.proofs.seat.Seat.split.Goals as goal

pub split_seat-token-requires : goal.split_seat-token-requires
split_seat-token-requires c = let core = c.self.inside.core.now in let token = c.self.inside.token in
    (c.self.invariant.table, omega (arith, core.sized.0), subst (λ (z : Setting). Splits (Sound z) token.id token.me.0 (with_one_split token.me.0) (split_off token.me.0)) (sym core.sized.2) (splits core.setting token.id token.me.0 (rw (← c.self.view_is) at c.requires.first) c.self.invariant.present (rw (← c.self.view_is) at c.requires.few)))
