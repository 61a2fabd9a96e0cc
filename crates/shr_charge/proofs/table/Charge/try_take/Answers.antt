-- SPDX-License-Identifier: GPL-2.0-only
use Rattle.shr_charge.proofs.Common.{◌≡◌, ◌≢◌, eqb, subst, sym, arith, Allows, Shape, IsChargeSound, hierarchy_of, TakesTreeRoom}
use prog.Atomic.{either}
use Rattle.shr_charge.proofs.Moves.{locks}
use Rattle.shr_charge.proofs.table.Charge.try_take.Goals as goal

pub lock_as-requires : goal.lock_as-requires
lock_as-requires c = let d = c.args.self.now in let t = d.table.shared in let m = c.args.token.now.me in let id = c.args.token.now.id in let wide = d.wide in record {
  table = c.requires.seat.same;
  word = omega (arith, wide);
  step = subst (λ (k : Shape). Allows (IsChargeSound k) t.table_id.slots id m 0 (λ y. either (eqb y 0) 1 y) (λ n r. (n ≡ 0 → TakesTreeRoom (hierarchy_of d.shape) m r) × (n ≢ 0 → r ≡ m))) (sym d.keyed)
      (locks d.shape t.table_id.slots id m c.requires.seat.here c.requires.bare c.requires.out);
}
