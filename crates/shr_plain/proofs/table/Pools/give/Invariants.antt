-- SPDX-License-Identifier: GPL-2.0-only
use Rattle.shr_plain.proofs.Common.{◌≡◌, [], with_room_given, with_part, part_of}
use Rattle.shr_plain.proofs.table.Pools.give.Given as goal

abbrev pub ghosts-free_as : goal.ghosts-free_as
ghosts-free_as a = record { tells = λ _ r. r ≡ (with_part a.seat.now.me.0 a._room (with_room_given (part_of a.seat.now.me.0 a._room)), []) }
