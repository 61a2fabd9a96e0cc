-- SPDX-License-Identifier: GPL-2.0-only
use Rattle.shr_charge.proofs.Common.{ap, subst, ◌∙◌, ℕ, map, range_with_len, slots_items, Final, Seen, Shape, IsChargeSound, usage_in}
use Rattle.shr_charge.proofs.Finals.{ends}
use Rattle.shr_charge.proofs.table.Charge.finish.Goals as goal

pub returns : goal.returns
returns c = let d = c.args.self in let closed = c.close_with-closed.result in let v = c.args.first.token.me.0 in
    ends d.shape c.args.first.token.id v (slots_items closed.words) (slots_items closed.slots) c.in_ok-usage.usage c.take-tree.result c.requires.first.first c.requires.whole c.requires.first.seat.out
    (subst (λ (s : Shape). Final (Seen (IsChargeSound s) c.args.first.token.id v) (slots_items closed.words) (slots_items closed.slots)) d.keyed c.close_with-closed.ensures.values.2)
    c.take-tree.ensures.value (c.in_ok-usage.ensures ∙ ap (λ (n : ℕ). map (usage_in (slots_items closed.words)) (range_with_len 0 n)) c.len.ensures)
