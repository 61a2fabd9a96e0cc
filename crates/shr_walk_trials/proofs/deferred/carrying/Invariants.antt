-- SPDX-License-Identifier: GPL-2.0-only
use Rattle.std.proofs.Common.{◌≡◌}
use Rattle.shr_deferred.specs.Seat.{deferred_standing}
use Rattle.shr_walk_trials.proofs.deferred.carrying.Given as goal

abbrev pub invariant-loop-turn : goal.invariant-loop-turn
invariant-loop-turn l = record { table : l.seat.deferred ≡ l.fn.seat.deferred; standing : deferred_standing l.seat ≡ deferred_standing l.fn.seat }
