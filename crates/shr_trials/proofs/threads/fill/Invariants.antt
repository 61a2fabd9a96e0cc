-- SPDX-License-Identifier: GPL-2.0-only
use Rattle.shr_trials.proofs.Common.{◌≤◌, StaysCalm}
use Rattle.shr_trials.proofs.threads.fill.Given as goal

abbrev pub invariant-loop-number : goal.invariant-loop-number
invariant-loop-number g l = record { calm : StaysCalm l.fn.seat l.seat; few : l.added ≤ l.number }
