-- SPDX-License-Identifier: GPL-2.0-only
use Rattle.shr_plain.proofs.Common.{sym, ap, UnitSeat, ◌∙◌, ℕ, arith, Place, Release, ReleaseGives, ActsPlain}
use Rattle.shr_base.specs.declared.replies.Spent.TheVariants as spent
use Rattle.shr_plain.specs.declared.answers.ReleaseAnswer.TheVariants as answered
use Rattle.shr_plain.proofs.Holding.{in_hand, hand_is, looked, put}
use Rattle.shr_plain.proofs.SeatLaws.{looked_seat, put_seat, was, is, sees, makes, worn_is, at_row}
use Rattle.shr_plain.proofs.table.PlainSeat.release.Goals as goal

pub give-requires-clause-hand : goal.give-requires-clause-hand
give-requires-clause-hand g c = in_hand _ _ _ _ c.take-slot.ensures.taken.did

pub give-requires-clause-same : goal.give-requires-clause-same
give-requires-clause-same g c = sym (hand_is _ _ _ _ c.take-slot.ensures.taken.did)

pub invariant_of-self : goal.invariant_of-self
invariant_of-self g c = looked_seat _ _ c.self.inside.units _ c.self.inside.deferred c.self.invariant (ap (λ (x : UnitSeat). x.table_id) c.give.ensures.given ∙ ap (λ (x : UnitSeat). x.table_id) c.take-slot.ensures.taken.same) _ (looked _ _ _ _ c.take-slot.ensures.taken.did _ (ap (λ (x : UnitSeat). x.me) c.give.ensures.given))

pub returns-then-free-units-gt-MOST_FREE : goal.returns-then-free-units-gt-MOST_FREE
returns-then-free-units-gt-MOST_FREE g c = record {
  released = rw (← c.self.view_is) (at_row (λ (x : Place) (i : ℕ). ActsPlain (ReleaseGives x i c.args.by c.args.units (answered.Full c.len-entries.result c.take-slot.result.free)) (was c.self.inside.pools.now c.self.inside.units c.give.new.seat c.self.inside.deferred c.self.inside.walks) (is c.self.inside.pools.now c.self.inside.units c.give.new.seat c.self.inside.deferred c.self.inside.walks)) c.self.inside.pools.now.sizes _ _ _ c.row-room.ensures.row c.place-place.ensures.place
      (sees c.self.inside.pools.now c.self.inside.units c.give.new.seat c.self.inside.deferred c.self.inside.walks (ReleaseGives c.place-place.result c.row-room.result c.args.by c.args.units (answered.Full c.len-entries.result c.take-slot.result.free)) _ _ (looked _ _ _ _ c.take-slot.ensures.taken.did _ (ap (λ (x : UnitSeat). x.me) c.give.ensures.given)) (λ h. (_, h, c.len-entries.ensures, c.take-slot.result.kept, c.if-free-units-gt-MOST_FREE.true))));
}

pub give-requires-then-entries-ge-MOST_ENTRIES-clause-hand : goal.give-requires-then-entries-ge-MOST_ENTRIES-clause-hand
give-requires-then-entries-ge-MOST_ENTRIES-clause-hand g c = in_hand _ _ _ _ c.take-slot.ensures.taken.did

pub give-requires-then-entries-ge-MOST_ENTRIES-clause-same : goal.give-requires-then-entries-ge-MOST_ENTRIES-clause-same
give-requires-then-entries-ge-MOST_ENTRIES-clause-same g c = sym (hand_is _ _ _ _ c.take-slot.ensures.taken.did)

pub invariant_of-self-then-entries-ge-MOST_ENTRIES : goal.invariant_of-self-then-entries-ge-MOST_ENTRIES
invariant_of-self-then-entries-ge-MOST_ENTRIES g c = looked_seat _ _ c.self.inside.units _ c.self.inside.deferred c.self.invariant (ap (λ (x : UnitSeat). x.table_id) c.give-then-entries-ge-MOST_ENTRIES.ensures.given ∙ ap (λ (x : UnitSeat). x.table_id) c.take-slot.ensures.taken.same) _ (looked _ _ _ _ c.take-slot.ensures.taken.did _ (ap (λ (x : UnitSeat). x.me) c.give-then-entries-ge-MOST_ENTRIES.ensures.given))

pub returns-then-entries-ge-MOST_ENTRIES : goal.returns-then-entries-ge-MOST_ENTRIES
returns-then-entries-ge-MOST_ENTRIES g c = record {
  released = rw (← c.self.view_is) (at_row (λ (x : Place) (i : ℕ). ActsPlain (ReleaseGives x i c.args.by c.args.units (answered.Worn (spent.List c.place-place.result c.len-entries.result c.take-slot.result.free))) (was c.self.inside.pools.now c.self.inside.units c.give-then-entries-ge-MOST_ENTRIES.new.seat c.self.inside.deferred c.self.inside.walks) (is c.self.inside.pools.now c.self.inside.units c.give-then-entries-ge-MOST_ENTRIES.new.seat c.self.inside.deferred c.self.inside.walks)) c.self.inside.pools.now.sizes _ _ _ c.row-room.ensures.row c.place-place.ensures.place
      (sees c.self.inside.pools.now c.self.inside.units c.give-then-entries-ge-MOST_ENTRIES.new.seat c.self.inside.deferred c.self.inside.walks (ReleaseGives c.place-place.result c.row-room.result c.args.by c.args.units (answered.Worn (spent.List c.place-place.result c.len-entries.result c.take-slot.result.free))) _ _ (looked _ _ _ _ c.take-slot.ensures.taken.did _ (ap (λ (x : UnitSeat). x.me) c.give-then-entries-ge-MOST_ENTRIES.ensures.given)) (λ h. (_, h, worn_is _ _ _ _ _ c.take-slot.ensures.taken.did.told c.len-entries.ensures c.take-slot.result.kept c.if-entries-ge-MOST_ENTRIES.true, let kept = c.take-slot.result.kept in let low = c.if-free-units-gt-MOST_FREE.false in omega (arith, kept, low)))));
}

pub give-requires-then-is_err-clause-hand : goal.give-requires-then-is_err-clause-hand
give-requires-then-is_err-clause-hand g c = in_hand _ _ _ _ c.take-slot.ensures.taken.did

pub give-requires-then-is_err-clause-same : goal.give-requires-then-is_err-clause-same
give-requires-then-is_err-clause-same g c = c.reserve.ensures.items ∙ sym (hand_is _ _ _ _ c.take-slot.ensures.taken.did)

pub invariant_of-self-then-is_err : goal.invariant_of-self-then-is_err
invariant_of-self-then-is_err g c = looked_seat _ _ c.self.inside.units _ c.self.inside.deferred c.self.invariant (ap (λ (x : UnitSeat). x.table_id) c.give-then-is_err.ensures.given ∙ ap (λ (x : UnitSeat). x.table_id) c.take-slot.ensures.taken.same) _ (looked _ _ _ _ c.take-slot.ensures.taken.did _ (ap (λ (x : UnitSeat). x.me) c.give-then-is_err.ensures.given))

pub returns-then-is_err : goal.returns-then-is_err
returns-then-is_err g c = record {
  released = rw (← c.self.view_is) (at_row (λ (x : Place) (i : ℕ). ActsPlain (ReleaseGives x i c.args.by c.args.units answered.Memory) (was c.self.inside.pools.now c.self.inside.units c.give-then-is_err.new.seat c.self.inside.deferred c.self.inside.walks) (is c.self.inside.pools.now c.self.inside.units c.give-then-is_err.new.seat c.self.inside.deferred c.self.inside.walks)) c.self.inside.pools.now.sizes _ _ _ c.row-room.ensures.row c.place-place.ensures.place
      (sees c.self.inside.pools.now c.self.inside.units c.give-then-is_err.new.seat c.self.inside.deferred c.self.inside.walks (ReleaseGives c.place-place.result c.row-room.result c.args.by c.args.units answered.Memory) _ _ (looked _ _ _ _ c.take-slot.ensures.taken.did _ (ap (λ (x : UnitSeat). x.me) c.give-then-is_err.ensures.given)) (λ h. (_, h, let long = c.len-entries.ensures in let few = c.if-entries-ge-MOST_ENTRIES.false in omega (arith, long, few), let kept = c.take-slot.result.kept in let low = c.if-free-units-gt-MOST_FREE.false in omega (arith, kept, low)))));
}

pub put-requires-clause-hand : goal.put-requires-clause-hand
put-requires-clause-hand g c = in_hand _ _ _ _ c.take-slot.ensures.taken.did

pub put-requires-clause-same : goal.put-requires-clause-same
put-requires-clause-same g c = c.reserve.ensures.items ∙ sym (hand_is _ _ _ _ c.take-slot.ensures.taken.did)

pub invariant_of-self-2 : goal.invariant_of-self-2
invariant_of-self-2 g c = put_seat _ _ c.self.inside.units _ c.self.inside.deferred c.self.invariant (ap (λ (x : UnitSeat). x.table_id) c.put.ensures.put ∙ ap (λ (x : UnitSeat). x.table_id) c.take-slot.ensures.taken.same) _ _ (put _ _ _ _ c.take-slot.ensures.taken.did _ _ (ap (λ (x : UnitSeat). x.me) c.put.ensures.put))

pub returns : goal.returns
returns g c = record {
  released = rw (← c.self.view_is) (at_row (λ (x : Place) (i : ℕ). ActsPlain (ReleaseGives x i c.args.by c.args.units (answered.Released c.len-entries.result)) (was c.self.inside.pools.now c.self.inside.units c.put.new.seat c.self.inside.deferred c.self.inside.walks) (is c.self.inside.pools.now c.self.inside.units c.put.new.seat c.self.inside.deferred c.self.inside.walks)) c.self.inside.pools.now.sizes _ _ _ c.row-room.ensures.row c.place-place.ensures.place
      (makes c.self.inside.pools.now c.self.inside.units c.put.new.seat c.self.inside.deferred c.self.inside.walks (ReleaseGives c.place-place.result c.row-room.result c.args.by c.args.units (answered.Released c.len-entries.result)) _ _ (Release c.args.by c.args.units) (put _ _ _ _ c.take-slot.ensures.taken.did _ _ (ap (λ (x : UnitSeat). x.me) c.put.ensures.put)) (λ h. (_, h, c.len-entries.ensures))));
}
