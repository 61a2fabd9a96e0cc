-- SPDX-License-Identifier: GPL-2.0-only
use Rattle.shr_plain.proofs.Common.{◌%◌, ◌/◌, ◌^◌, Counts}
use Rattle.shr_plain.proofs.table.Pools.count.Given as goal

abbrev pub ghosts-load_as : goal.ghosts-load_as
ghosts-load_as a = record { tells = λ n r. Counts a._room a.seat.now.me r (n % 2 ^ 32) (n / 2 ^ 32) }
