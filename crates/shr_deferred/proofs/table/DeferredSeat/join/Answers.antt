-- SPDX-License-Identifier: GPL-2.0-only
use Rattle.shr_deferred.proofs.Common.{◌≡◌, true, ap, subst, sym, ◌∙◌}
use Rattle.shr_deferred.specs.Seat.{DeferredSeated}
use Rattle.shr_deferred.specs.declared.table.Deferred.{Deferred}
use Rattle.shr_deferred.proofs.Seating.{joins, some_words}
use Rattle.shr_deferred.proofs.table.DeferredSeat.join.Goals as goal

pub join_seat-requires : goal.join_seat-requires
join_seat-requires c = let d = c.self.inside.deferred.now in let o = c.self.invariant in let u = c.other.invariant in (
  o.seat.same,
  u.seat.same ∙ ap (λ (d : Deferred). d.table.shared.table_id) (ap (λ (s : DeferredSeated). s.deferred) c.other.view_is ∙ (c.requires.table ∙ sym (ap (λ (s : DeferredSeated). s.deferred) c.self.view_is))),
  u.bare,
  some_words d.sizes _ d.wide d.some.0 d.some.1 d.some.2,
  joins _ _ c.self.inside.token.me.0 _ c.other.inside.token.me.0 (subst (λ (s : DeferredSeated). s.view.standing.first ≡ true) (sym c.self.view_is) c.requires.first) o.seat.here u.seat.here,
)
