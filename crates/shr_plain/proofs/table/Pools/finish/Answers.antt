-- SPDX-License-Identifier: GPL-2.0-only
use Rattle.shr_plain.proofs.Common.{ap, subst, ◌∙◌, slots_items, Final, Seen, Sizes, entries_at, IsPools}
use Rattle.shr_plain.specs.Seat.{first_plain}
use Rattle.shr_deferred.specs.Left.{left_over}
use Rattle.shr_plain.proofs.Endings.{rooms_left}
use Rattle.shr_plain.proofs.table.Pools.finish.Goals as goal

pub returns : goal.returns
returns c = let d = c.args.self in let closed = c.close_with-closed.result in let seat = c.args.first in record {
  journal = entries_at (slots_items closed.slots);
  rooms = rooms_left d.sizes seat.units.id seat.units.me.0 (slots_items closed.words) (slots_items closed.slots) c.requires.first.first c.requires.whole.units c.requires.first.units.out
      (subst (λ (z : Sizes). Final (Seen (IsPools z) seat.units.id seat.units.me.0) (slots_items closed.words) (slots_items closed.slots)) d.keyed c.close_with-closed.ensures.values.2);
  units = c.in_ok-units.ensures.ends;
  deferred = c.in_ok-pool_deferred.ensures.left ∙ ap (λ (z : Sizes). left_over z (first_plain seat).moves) d.deferrals;
}
