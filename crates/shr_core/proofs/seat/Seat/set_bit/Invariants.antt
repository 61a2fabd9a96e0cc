-- SPDX-License-Identifier: GPL-2.0-only
use Rattle.shr_core.proofs.Common.{◌≡◌, with_set}
use Rattle.shr_core.proofs.seat.Seat.set_bit.Given as goal

abbrev pub ghosts-or_as : goal.ghosts-or_as
ghosts-or_as a = record { tells = λ _ q. q ≡ (with_set a.token.now.me.0 a._at, a.token.now.me.1) }
