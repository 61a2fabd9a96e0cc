-- SPDX-License-Identifier: GPL-2.0-only
use Rattle.shr_plain.proofs.Common.{◌≡◌, [], length, ap, sym, subst, ◌∙◌, arith, length_push, Each, Slot, room_journal}
use Rattle.shr_seats.proofs.Sums.{Each-push}
use Rattle.shr_plain.proofs.opening.bare_rooms.Goals as goal

pub loop-room-preserved : goal.loop-room-preserved
loop-room-preserved c = let items = c.in_ok-push.ensures.items in let grown = ap length items ∙ length_push c.loop-room.rooms.items _ in let inv = c.loop-room.invariant in (
  omega (arith, grown, inv.0),
  subst (Each (λ (s : Slot). room_journal s ≡ [])) (sym items) (Each-push (λ (s : Slot). room_journal s ≡ []) c.loop-room.rooms.items _ c.new.ensures.items inv.1),
)
