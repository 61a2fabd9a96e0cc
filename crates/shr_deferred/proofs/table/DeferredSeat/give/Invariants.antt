-- SPDX-License-Identifier: GPL-2.0-only
use Rattle.shr_deferred.proofs.Common.{◌≡◌, give_of}
use Rattle.shr_deferred.proofs.Steps.{with_moves}
use Rattle.shr_deferred.proofs.table.DeferredSeat.give.Given as goal

abbrev pub ghosts-add_as : goal.ghosts-add_as
ghosts-add_as a = record { tells = λ _ r. r ≡ with_moves a.seat.now.id a.seat.now.me (give_of a._place a.n) }
