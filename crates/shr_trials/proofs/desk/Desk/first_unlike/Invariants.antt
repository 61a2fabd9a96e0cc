-- SPDX-License-Identifier: GPL-2.0-only
use Rattle.shr_trials.proofs.Common.{◌≡◌}
use Rattle.shr_trials.proofs.desk.Desk.first_unlike.Given as goal

abbrev pub invariant-loop-i : goal.invariant-loop-i
invariant-loop-i g l = l.self.seat.core ≡ l.fn.self.seat.core
