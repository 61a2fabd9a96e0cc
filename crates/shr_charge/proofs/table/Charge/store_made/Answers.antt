-- SPDX-License-Identifier: GPL-2.0-only
use Rattle.shr_charge.proofs.Common.{◌≡◌, subst, sym, arith, Allows, Shape, IsChargeSound, group_index, with_made, with_tree}
use Rattle.shr_charge.proofs.Moves.{makes}
use Rattle.shr_charge.proofs.table.Charge.store_made.Goals as goal

pub store_as-requires : goal.store_as-requires
store_as-requires c = let d = c.args.self.now in let t = d.table.shared in let m = c.args.token.now.me in let id = c.args.token.now.id in let wide = d.wide in let low = c.requires.may.there in let g = c.args.group in record {
  table = c.requires.seat.same;
  word = omega (arith, wide, low);
  step = subst (λ (k : Shape). Allows (IsChargeSound k) t.table_id.slots id m (group_index g) (λ _. 0) (λ _ r. r ≡ with_tree m (with_made m.0.tree g))) (sym d.keyed)
      (makes d.shape t.table_id.slots id m c.requires.seat.here g c.requires.hand c.requires.may);
}
