-- SPDX-License-Identifier: GPL-2.0-only
use Rattle.shr_plain.proofs.Common.{sym, ap, UnitSeat, subst, ◌∙◌, ℕ, Bool, arith, Place, Grab, Makes, lt-ltb, le-ltb, GrabGives, ActsPlain}
use Rattle.shr_base.specs.declared.replies.Spent.TheVariants as spent
use Rattle.shr_plain.specs.declared.answers.GrabAnswer.TheVariants as answered
use Rattle.shr_plain.proofs.Holding.{in_hand, hand_is, looked, put}
use Rattle.shr_plain.proofs.SeatLaws.{looked_seat, put_seat, was, is, sees, makes, worn_is, at_row}
use Rattle.shr_plain.proofs.table.PlainSeat.grab.Goals as goal

pub give-requires-clause-hand : goal.give-requires-clause-hand
give-requires-clause-hand g c = in_hand _ _ _ _ c.take-slot.ensures.taken.did

pub give-requires-clause-same : goal.give-requires-clause-same
give-requires-clause-same g c = sym (hand_is _ _ _ _ c.take-slot.ensures.taken.did)

pub invariant_of-self : goal.invariant_of-self
invariant_of-self g c = looked_seat _ _ c.self.inside.units _ c.self.inside.deferred c.self.invariant (ap (λ (x : UnitSeat). x.table_id) c.give.ensures.given ∙ ap (λ (x : UnitSeat). x.table_id) c.take-slot.ensures.taken.same) _ (looked _ _ _ _ c.take-slot.ensures.taken.did _ (ap (λ (x : UnitSeat). x.me) c.give.ensures.given))

pub returns-then-entry-ge-MOST_ENTRIES : goal.returns-then-entry-ge-MOST_ENTRIES
returns-then-entry-ge-MOST_ENTRIES g c = record {
  grabbed = rw (← c.self.view_is) (at_row (λ (x : Place) (i : ℕ). ActsPlain (GrabGives x i c.args.by (answered.Worn (spent.List c.place-place.result c.len-entry.result c.take-slot.result.free))) (was c.self.inside.pools.now c.self.inside.units c.give.new.seat c.self.inside.deferred c.self.inside.walks) (is c.self.inside.pools.now c.self.inside.units c.give.new.seat c.self.inside.deferred c.self.inside.walks)) c.self.inside.pools.now.sizes _ _ _ c.row-room.ensures.row c.place-place.ensures.place
      (sees c.self.inside.pools.now c.self.inside.units c.give.new.seat c.self.inside.deferred c.self.inside.walks (GrabGives c.place-place.result c.row-room.result c.args.by (answered.Worn (spent.List c.place-place.result c.len-entry.result c.take-slot.result.free))) _ _ (looked _ _ _ _ c.take-slot.ensures.taken.did _ (ap (λ (x : UnitSeat). x.me) c.give.ensures.given)) (λ h. (_, h, worn_is _ _ _ _ _ c.take-slot.ensures.taken.did.told c.len-entry.ensures c.take-slot.result.kept c.if-entry-ge-MOST_ENTRIES.true))));
}

pub give-requires-then-is_err-clause-hand : goal.give-requires-then-is_err-clause-hand
give-requires-then-is_err-clause-hand g c = in_hand _ _ _ _ c.take-slot.ensures.taken.did

pub give-requires-then-is_err-clause-same : goal.give-requires-then-is_err-clause-same
give-requires-then-is_err-clause-same g c = c.reserve.ensures.items ∙ sym (hand_is _ _ _ _ c.take-slot.ensures.taken.did)

pub invariant_of-self-then-is_err : goal.invariant_of-self-then-is_err
invariant_of-self-then-is_err g c = looked_seat _ _ c.self.inside.units _ c.self.inside.deferred c.self.invariant (ap (λ (x : UnitSeat). x.table_id) c.give-then-is_err.ensures.given ∙ ap (λ (x : UnitSeat). x.table_id) c.take-slot.ensures.taken.same) _ (looked _ _ _ _ c.take-slot.ensures.taken.did _ (ap (λ (x : UnitSeat). x.me) c.give-then-is_err.ensures.given))

pub returns-then-is_err : goal.returns-then-is_err
returns-then-is_err g c = record {
  grabbed = rw (← c.self.view_is) (at_row (λ (x : Place) (i : ℕ). ActsPlain (GrabGives x i c.args.by answered.Memory) (was c.self.inside.pools.now c.self.inside.units c.give-then-is_err.new.seat c.self.inside.deferred c.self.inside.walks) (is c.self.inside.pools.now c.self.inside.units c.give-then-is_err.new.seat c.self.inside.deferred c.self.inside.walks)) c.self.inside.pools.now.sizes _ _ _ c.row-room.ensures.row c.place-place.ensures.place
      (sees c.self.inside.pools.now c.self.inside.units c.give-then-is_err.new.seat c.self.inside.deferred c.self.inside.walks (GrabGives c.place-place.result c.row-room.result c.args.by answered.Memory) _ _ (looked _ _ _ _ c.take-slot.ensures.taken.did _ (ap (λ (x : UnitSeat). x.me) c.give-then-is_err.ensures.given)) (λ h. (_, h, let long = c.len-entry.ensures in let few = c.if-entry-ge-MOST_ENTRIES.false in omega (arith, long, few)))));
}

pub put-requires-clause-hand : goal.put-requires-clause-hand
put-requires-clause-hand g c = in_hand _ _ _ _ c.take-slot.ensures.taken.did

pub put-requires-clause-same : goal.put-requires-clause-same
put-requires-clause-same g c = c.reserve.ensures.items ∙ sym (hand_is _ _ _ _ c.take-slot.ensures.taken.did)

pub invariant_of-self-2 : goal.invariant_of-self-2
invariant_of-self-2 g c = put_seat _ _ c.self.inside.units _ c.self.inside.deferred c.self.invariant (ap (λ (x : UnitSeat). x.table_id) c.put.ensures.put ∙ ap (λ (x : UnitSeat). x.table_id) c.take-slot.ensures.taken.same) _ _ (put _ _ _ _ c.take-slot.ensures.taken.did _ _ (ap (λ (x : UnitSeat). x.me) c.put.ensures.put))

pub invariant_of-self-then-got : goal.invariant_of-self-then-got
invariant_of-self-then-got g c = put_seat _ _ c.self.inside.units _ c.self.inside.deferred c.self.invariant (ap (λ (x : UnitSeat). x.table_id) c.put.ensures.put ∙ ap (λ (x : UnitSeat). x.table_id) c.take-slot.ensures.taken.same) _ _ (put _ _ _ _ c.take-slot.ensures.taken.did _ _ (ap (λ (x : UnitSeat). x.me) c.put.ensures.put))

pub returns-then-got : goal.returns-then-got
returns-then-got g c = record {
  grabbed = rw (← c.self.view_is) (at_row (λ (x : Place) (i : ℕ). ActsPlain (GrabGives x i c.args.by (answered.Grabbed c.len-entry.result)) (was c.self.inside.pools.now c.self.inside.units c.put.new.seat c.self.inside.deferred c.self.inside.walks) (is c.self.inside.pools.now c.self.inside.units c.put.new.seat c.self.inside.deferred c.self.inside.walks)) c.self.inside.pools.now.sizes _ _ _ c.row-room.ensures.row c.place-place.ensures.place
      (makes c.self.inside.pools.now c.self.inside.units c.put.new.seat c.self.inside.deferred c.self.inside.walks (GrabGives c.place-place.result c.row-room.result c.args.by (answered.Grabbed c.len-entry.result)) _ _ _ (put _ _ _ _ c.take-slot.ensures.taken.did _ _ (ap (λ (x : UnitSeat). x.me) c.put.ensures.put)) (λ h. (_, subst (λ (b : Bool). Makes c.row-room.result (was c.self.inside.pools.now c.self.inside.units c.put.new.seat c.self.inside.deferred c.self.inside.walks).state (is c.self.inside.pools.now c.self.inside.units c.put.new.seat c.self.inside.deferred c.self.inside.walks).state c.take-slot.result.journal.items (Grab c.args.by b)) (lt-ltb 0 c.take-slot.result.free c.if-got.true) h, let kept = c.take-slot.result.kept in let some = c.if-got.true in omega (arith, kept, some), c.len-entry.ensures))));
}

pub returns : goal.returns
returns g c = record {
  grabbed = rw (← c.self.view_is) (at_row (λ (x : Place) (i : ℕ). ActsPlain (GrabGives x i c.args.by (answered.Bare c.len-entry.result)) (was c.self.inside.pools.now c.self.inside.units c.put.new.seat c.self.inside.deferred c.self.inside.walks) (is c.self.inside.pools.now c.self.inside.units c.put.new.seat c.self.inside.deferred c.self.inside.walks)) c.self.inside.pools.now.sizes _ _ _ c.row-room.ensures.row c.place-place.ensures.place
      (makes c.self.inside.pools.now c.self.inside.units c.put.new.seat c.self.inside.deferred c.self.inside.walks (GrabGives c.place-place.result c.row-room.result c.args.by (answered.Bare c.len-entry.result)) _ _ _ (put _ _ _ _ c.take-slot.ensures.taken.did _ _ (ap (λ (x : UnitSeat). x.me) c.put.ensures.put)) (λ h. (_, subst (λ (b : Bool). Makes c.row-room.result (was c.self.inside.pools.now c.self.inside.units c.put.new.seat c.self.inside.deferred c.self.inside.walks).state (is c.self.inside.pools.now c.self.inside.units c.put.new.seat c.self.inside.deferred c.self.inside.walks).state c.take-slot.result.journal.items (Grab c.args.by b)) (le-ltb 0 c.take-slot.result.free c.if-got.false) h, let kept = c.take-slot.result.kept in let none = c.if-got.false in omega (arith, kept, none), c.len-entry.ensures))));
}
