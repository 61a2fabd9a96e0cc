-- SPDX-License-Identifier: GPL-2.0-only
use Rattle.shr_core.proofs.Common.{List, map, ap, subst, sym, ◌∙◌, arith, Joins, Setting, row_in, sizes_of, Hand, Sound, spent, with_joined, IsAtRest}
use Rattle.shr_core.specs.declared.table.Core.{Core}
use Rattle.shr_core.proofs.Seats.{joins}
use Rattle.shr_core.proofs.Calls.{no_slots}
use Rattle.shr_core.proofs.seat.Seat.join.Goals as goal

pub join_seat-requires : goal.join_seat-requires
join_seat-requires c = let core = c.self.inside.core.now in let token = c.self.inside.token in let other = c.other.inside in let o = c.other.invariant in let rest : IsAtRest other.token.me.0 = rw (← c.other.view_is) at c.requires.rest in (
  c.self.invariant.table,
  o.table ∙ ap (λ (x : Core). x.table.shared.table_id) (rw (← c.other.view_is, ← c.self.view_is) at c.requires.table),
  no_slots other.token.me.1 (o.slots ∙ ap (λ (l : List Hand). map (row_in (sizes_of other.core.now.setting.shape)) (map (λ (h : Hand). h.room) l)) rest.rooms),
  omega (arith, core.sized.0),
  subst (λ (z : Setting). Joins (Sound z) token.id token.me.0 other.token.id other.token.me.0 (with_joined token.me.0 other.token.me.0) spent) (sym core.sized.2) (joins core.setting token.id token.me.0 other.token.id other.token.me.0 (rw (← c.self.view_is) at c.requires.first) c.self.invariant.present o.present o.may o.probe rest),
)
