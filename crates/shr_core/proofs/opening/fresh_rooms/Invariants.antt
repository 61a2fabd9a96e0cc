-- SPDX-License-Identifier: GPL-2.0-only
use Rattle.shr_core.proofs.Common.{◌≡◌, length, AreFreshRooms}
use Rattle.shr_core.proofs.opening.fresh_rooms.Given as goal

abbrev pub invariant-loop : goal.invariant-loop
invariant-loop l = (length l.rooms.items ≡ l.counter) × AreFreshRooms l.most_items l.most_entries l.rooms.items
