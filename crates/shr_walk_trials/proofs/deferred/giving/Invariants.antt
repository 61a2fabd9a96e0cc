-- SPDX-License-Identifier: GPL-2.0-only
use Rattle.std.proofs.Common.{◌≡◌}
use Rattle.shr_walk_trials.proofs.deferred.giving.Given as goal

abbrev pub invariant-loop-turn : goal.invariant-loop-turn
invariant-loop-turn l = l.seat.deferred ≡ l.fn.seat.deferred
