-- SPDX-License-Identifier: GPL-2.0-only
use Rattle.shr_core.proofs.Common.{◌≡◌, with_clear}
use Rattle.shr_core.proofs.seat.Seat.clear_bit.Given as goal

abbrev pub ghosts-and_as : goal.ghosts-and_as
ghosts-and_as a = record { tells = λ _ q. q ≡ (with_clear a.token.now.me.0 a._at, a.token.now.me.1) }
