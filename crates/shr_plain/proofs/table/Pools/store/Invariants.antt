-- SPDX-License-Identifier: GPL-2.0-only
use Rattle.shr_plain.proofs.Common.{◌≡◌, with_room_stored, with_part, part_of}
use Rattle.shr_plain.proofs.table.Pools.store.Given as goal

abbrev pub ghosts-store_as : goal.ghosts-store_as
ghosts-store_as a = record { tells = λ _ r. r ≡ (with_part a.seat.now.me.0 a._room (with_room_stored (part_of a.seat.now.me.0 a._room) a._entry), a.seat.now.me.1) }
