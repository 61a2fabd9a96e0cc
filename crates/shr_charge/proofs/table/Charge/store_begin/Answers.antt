-- SPDX-License-Identifier: GPL-2.0-only
use Rattle.shr_charge.proofs.Common.{◌≡◌, ◌+◌, subst, sym, arith, Allows, Shape, IsChargeSound, group_index, with_begin, with_tree}
use Rattle.shr_charge.proofs.Moves.{begins}
use Rattle.shr_charge.proofs.table.Charge.store_begin.Goals as goal

pub store_as-requires : goal.store_as-requires
store_as-requires c = let d = c.args.self.now in let t = d.table.shared in let m = c.args.token.now.me in let id = c.args.token.now.id in let wide = d.wide in let low = c.requires.may.there in let g = c.args.group in let new = c.args.entry + 1 in let e = c.requires.entry in record {
  table = c.requires.seat.same;
  word = omega (arith, wide, low);
  step = subst (λ (k : Shape). Allows (IsChargeSound k) t.table_id.slots id m (group_index g) (λ _. new) (λ _ r. r ≡ with_tree m (with_begin m.0.tree g))) (sym d.keyed)
      (begins d.shape t.table_id.slots id m c.requires.seat.here g new c.requires.hand c.requires.may (omega (arith, e)));
}
