-- SPDX-License-Identifier: GPL-2.0-only
use Rattle.shr_deferred.proofs.Common.{◌≡◌, acts_of, IsAlone, left_at, take_of}
use Rattle.shr_deferred.proofs.Steps.{with_moves}
use Rattle.shr_deferred.proofs.table.DeferredSeat.take.Given as goal

abbrev pub ghosts-swap_as : goal.ghosts-swap_as
ghosts-swap_as a = record { tells = λ n r. (r ≡ with_moves a.seat.now.id a.seat.now.me (take_of a._place n)) × (IsAlone a.seat.now.me.0.standing → n ≡ left_at a._place (acts_of a.seat.now.me.0.did)) }
