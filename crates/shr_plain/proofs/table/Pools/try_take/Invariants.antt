-- SPDX-License-Identifier: GPL-2.0-only
use Rattle.shr_plain.proofs.Common.{◌≡◌, ◌≢◌, TakesUnitsRoom}
use Rattle.shr_plain.proofs.table.Pools.try_take.Given as goal

abbrev pub ghosts-lock_as : goal.ghosts-lock_as
ghosts-lock_as a = record { tells = λ n r. (n ≡ 0 → TakesUnitsRoom a._room a.seat.now.me r) × (n ≢ 0 → r ≡ a.seat.now.me) }
