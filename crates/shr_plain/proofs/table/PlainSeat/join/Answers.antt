-- SPDX-License-Identifier: GPL-2.0-only
use Rattle.shr_plain.proofs.Common.{◌≡◌, true, subst, sym, refl, ◌∙◌, ap, row_count, part_joined, units, room_journal, parts_in, units_standing_in, spent_units_view, with_parts, joined_units_view, PlainSeated, DeferredSeated}
use Rattle.shr_seats.proofs.RoomSteps.{joins}
use Rattle.shr_plain.proofs.SeatLaws.{has_words, unit_join, join_is}
use Rattle.shr_plain.specs.declared.table.Pools.{Pools}
use Rattle.shr_plain.proofs.table.PlainSeat.join.Goals as goal

pub join-requires : goal.join-requires
join-requires c = record {
  first = subst (λ (s : PlainSeated). s.standing.1.first ≡ true) (sym c.self.view_is) c.requires.first.deferred;
  table = c.other.invariant.deferred ∙ (ap (λ (p : Pools). p.deferred) (ap (λ (s : PlainSeated). s.pools) c.other.view_is ∙ (c.requires.table ∙ sym (ap (λ (s : PlainSeated). s.pools) c.self.view_is))) ∙ sym c.self.invariant.deferred);
}

pub join_seat-requires : goal.join_seat-requires
join_seat-requires c = let d = c.self.inside.pools.now in let s = c.self.inside.units in let t = c.other.inside.units in let is = c.self.invariant.units in let other = c.other.invariant.units in (
  is.seat.same,
  other.seat.same ∙ ap (λ (p : Pools). p.table.shared.table_id) (ap (λ (s : PlainSeated). s.pools) c.other.view_is ∙ (c.requires.table ∙ sym (ap (λ (s : PlainSeated). s.pools) c.self.view_is))),
  other.bare,
  has_words d,
  joins units room_journal parts_in units_standing_in spent_units_view with_parts (λ v l. refl) (λ v l. refl) (row_count d.table.shared.key) s.id s.me.0 t.id t.me.0 (joined_units_view s.me.0 t.me.0) (subst (λ (s : PlainSeated). s.standing.0.first ≡ true) (sym c.self.view_is) c.requires.first.units) is.seat.here other.seat.here
      (λ k low. other.out k) (λ k. part_joined s.me.0.rooms t.me.0.rooms k) refl refl refl,
)

pub invariant_of-self : goal.invariant_of-self
invariant_of-self c = let did = c.join_seat.ensures in record {
  units = unit_join c.self.inside.pools.now c.self.inside.units _ c.other.inside.units c.self.invariant.units did.0 did.2;
  deferred = ap (λ (s : DeferredSeated). s.deferred) c.join.ensures ∙ c.self.invariant.deferred;
}

pub returns : goal.returns
returns c = let s = c.self.inside in let o = c.other.inside in rw (← c.self.view_is, ← c.other.view_is)
    (join_is s.pools.now o.pools.now s.units c.join_seat.new.seat o.units s.deferred c.join.new.self o.deferred s.walks o.walks c.join_seat.ensures.2 c.join.ensures)
