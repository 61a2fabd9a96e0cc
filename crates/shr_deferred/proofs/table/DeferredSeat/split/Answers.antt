-- SPDX-License-Identifier: GPL-2.0-only
use Rattle.shr_deferred.proofs.Common.{◌≡◌, true, subst, sym}
use Rattle.shr_deferred.specs.Seat.{DeferredSeated}
use Rattle.shr_deferred.proofs.Seating.{splits, some_words}
use Rattle.shr_deferred.proofs.table.DeferredSeat.split.Goals as goal

pub split_seat-requires : goal.split_seat-requires
split_seat-requires c = let d = c.self.inside.deferred.now in let o = c.self.invariant in (
  o.seat.same,
  some_words d.sizes _ d.wide d.some.0 d.some.1 d.some.2,
  splits _ _ c.self.inside.token.me.0 (subst (λ (s : DeferredSeated). s.view.standing.first ≡ true) (sym c.self.view_is) c.requires.first) o.seat.here,
)
