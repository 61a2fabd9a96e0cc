-- SPDX-License-Identifier: GPL-2.0-only
use Rattle.shr_core.proofs.Common.{◌≡◌, word_in, with_given_up}
use Rattle.shr_core.proofs.seat.Seat.give_up.Given as goal

abbrev pub ghosts-load_as : goal.ghosts-load_as
ghosts-load_as a = record { tells = λ r q. q ≡ (with_given_up a.token.now.me.0 a._at (word_in r), a.token.now.me.1) }
