-- SPDX-License-Identifier: GPL-2.0-only
use Rattle.shr_plain.proofs.Common.{◌≡◌, true, subst, sym, refl, ◌∙◌, ap, row_count, units, room_journal, parts_in, units_standing_in, spent_units_view, with_parts, split_units_view, new_units_view, PlainSeated, DeferredSeated}
use Rattle.shr_seats.proofs.RoomSteps.{splits}
use Rattle.shr_plain.proofs.SeatLaws.{has_words, split_is}
use Rattle.shr_plain.proofs.table.PlainSeat.split.Goals as goal

pub split-requires : goal.split-requires
split-requires c = record { first = subst (λ (s : PlainSeated). s.standing.1.first ≡ true) (sym c.self.view_is) c.requires.first.deferred }

pub split_seat-units-requires : goal.split_seat-units-requires
split_seat-units-requires c = let d = c.self.inside.pools.now in let v = c.self.inside.units.me.0 in let is = c.self.invariant.units in (
  is.seat.same,
  has_words d,
  splits units room_journal parts_in units_standing_in spent_units_view with_parts (λ v l. refl) (λ v l. refl) (row_count d.table.shared.key) c.self.inside.units.id v (split_units_view v) new_units_view (subst (λ (s : PlainSeated). s.standing.0.first ≡ true) (sym c.self.view_is) c.requires.first.units) is.seat.here refl refl refl refl,
)

pub invariant_of-self : goal.invariant_of-self
invariant_of-self c = record { units = c.self.invariant.units; deferred = ap (λ (s : DeferredSeated). s.deferred) c.split.ensures.split ∙ c.self.invariant.deferred }

pub returns-clause-split : goal.returns-clause-split
returns-clause-split c = let s = c.self.inside in rw (← c.self.view_is) (split_is s.pools.now s.units c.split_seat-units.new.seat s.deferred c.split.new.self s.walks c.split_seat-units.ensures.2 c.split.ensures.split)
