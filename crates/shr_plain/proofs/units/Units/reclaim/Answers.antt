-- SPDX-License-Identifier: GPL-2.0-only
use Rattle.shr_plain.proofs.Common.{sym, ap, ◌∙◌, arith, UnitSeat}
use Rattle.shr_plain.proofs.Holding.{in_hand, hand_is, looked, put}
use Rattle.shr_plain.proofs.SeatLaws.{worn_is, same_then}
use Rattle.shr_plain.proofs.units.Units.reclaim.Goals as goal

pub give-requires-clause-hand : goal.give-requires-clause-hand
give-requires-clause-hand g c = in_hand _ _ _ _ c.take-slot.ensures.taken.did

pub give-requires-clause-same : goal.give-requires-clause-same
give-requires-clause-same g c = sym (hand_is _ _ _ _ c.take-slot.ensures.taken.did)

pub give-requires-then-is_err-clause-hand : goal.give-requires-then-is_err-clause-hand
give-requires-then-is_err-clause-hand g c = in_hand _ _ _ _ c.take-slot.ensures.taken.did

pub give-requires-then-is_err-clause-same : goal.give-requires-then-is_err-clause-same
give-requires-then-is_err-clause-same g c = c.reserve.ensures.items ∙ sym (hand_is _ _ _ _ c.take-slot.ensures.taken.did)

pub returns-then-entries-ge-MOST_ENTRIES : goal.returns-then-entries-ge-MOST_ENTRIES
returns-then-entries-ge-MOST_ENTRIES g c = record { reclaimed = record { same = same_then c.args.seat.now c.take-slot.new.seat c.give.new.seat _ c.take-slot.ensures.taken.same c.give.ensures.given; did = (_, looked _ _ _ _ c.take-slot.ensures.taken.did _ (ap (λ (x : UnitSeat). x.me) c.give.ensures.given), worn_is _ _ _ _ _ c.take-slot.ensures.taken.did.told c.len-entries.ensures c.take-slot.result.kept c.if-entries-ge-MOST_ENTRIES.true) } }

pub returns-then-is_err : goal.returns-then-is_err
returns-then-is_err g c = record { reclaimed = record { same = same_then c.args.seat.now c.take-slot.new.seat c.give-then-is_err.new.seat _ c.take-slot.ensures.taken.same c.give-then-is_err.ensures.given; did = (_, looked _ _ _ _ c.take-slot.ensures.taken.did _ (ap (λ (x : UnitSeat). x.me) c.give-then-is_err.ensures.given)) } }

pub put-requires-clause-hand : goal.put-requires-clause-hand
put-requires-clause-hand g c = in_hand _ _ _ _ c.take-slot.ensures.taken.did

pub put-requires-clause-same : goal.put-requires-clause-same
put-requires-clause-same g c = c.reserve.ensures.items ∙ sym (hand_is _ _ _ _ c.take-slot.ensures.taken.did)

pub returns : goal.returns
returns g c = let least = c.min-freed.ensures in let kept = c.take-slot.result.kept in record { reclaimed = record { same = same_then c.args.seat.now c.take-slot.new.seat c.put.new.seat _ c.take-slot.ensures.taken.same c.put.ensures.put; did = (_, put _ _ _ _ c.take-slot.ensures.taken.did _ _ (ap (λ (x : UnitSeat). x.me) c.put.ensures.put), omega (arith, least, kept)) } }
