-- SPDX-License-Identifier: GPL-2.0-only
use Rattle.shr_trials.proofs.Common.{StaysCalm}
use Rattle.shr_trials.proofs.threads.wait_for.Given as goal

abbrev pub invariant-loop-turn : goal.invariant-loop-turn
invariant-loop-turn l = StaysCalm l.fn.seat l.seat
