-- SPDX-License-Identifier: GPL-2.0-only
use Rattle.shr_trials.proofs.Common.{StaysCalm}
use Rattle.shr_trials.proofs.desk.register_all.Given as goal

abbrev pub invariant-loop-decl : goal.invariant-loop-decl
invariant-loop-decl g l = StaysCalm l.fn.seat l.seat
