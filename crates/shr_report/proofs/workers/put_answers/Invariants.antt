-- SPDX-License-Identifier: GPL-2.0-only
use Rattle.shr_report.proofs.Common.{drop, take, AllByRecursion, PrintsTo, IsAnsweredNumbered, logs_from, AreNumberedTo, logs_of, IsPartWell, IsPrintedWithin, answer_lines}
use Rattle.shr_report.proofs.Ranges.{AreLeft}
use Rattle.shr_report.proofs.workers.put_answers.Given as goal

abbrev pub invariant-loop-command : goal.invariant-loop-command
invariant-loop-command g l = record {
  within : IsPrintedWithin l.part l.at;
  printed : PrintsTo g.K.Sink.written g.K.Sink.faults l.fn.out l.out (answer_lines l.worker 0 l.answers (logs_of l.part)) (answer_lines l.worker l.command (drop l.command l.answers) (logs_from l.part l.at));
  answers : AllByRecursion IsAnsweredNumbered (take l.command l.answers);
  numbers : AreNumberedTo l.part l.at;
  left : IsPartWell l.worker l.part → AreLeft l.command (logs_from l.part l.at);
}
