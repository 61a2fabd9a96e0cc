-- SPDX-License-Identifier: GPL-2.0-only
use Rattle.shr_plain.proofs.Common.{◌≡◌, length, [], Each, Slot, room_journal}
use Rattle.shr_plain.proofs.opening.bare_rooms.Given as goal

abbrev pub invariant-loop-room : goal.invariant-loop-room
invariant-loop-room l = (length l.rooms.items ≡ l._room) × Each (λ (s : Slot). room_journal s ≡ []) l.rooms.items
