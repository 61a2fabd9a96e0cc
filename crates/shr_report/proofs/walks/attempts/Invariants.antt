-- SPDX-License-Identifier: GPL-2.0-only
use Rattle.shr_report.proofs.Common.{take, flat_map, AllByRecursion, Prints, IsAttemptNumbered, attempt_line}
use Rattle.shr_report.proofs.walks.attempts.Given as goal

abbrev pub invariant-loop-a : goal.invariant-loop-a
invariant-loop-a g l = record {
  printed : Prints g.K.Sink.written g.K.Sink.faults l.fn.out l.out (flat_map attempt_line (take l.a-index l.attempts));
  numbers : AllByRecursion IsAttemptNumbered (take l.a-index l.attempts);
}
