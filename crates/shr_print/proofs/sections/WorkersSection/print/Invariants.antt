-- SPDX-License-Identifier: GPL-2.0-only
use Rattle.std.specs.List.{AllByRecursion}
use Rattle.shr_outside.specs.Paper.{Prints}
use Rattle.shr_laws.specs.Lines.{numbered}
use Rattle.shr_laws.specs.Numbers.{IsPartNumbered}
use Rattle.shr_laws.specs.PartNumbers.{ArePartsWell}
use Rattle.shr_laws.specs.Text.{worker_lines}
use Rattle.shr_print.specs.Runs.{run_of}
use Rattle.shr_print.proofs.sections.WorkersSection.print.Given as goal

abbrev pub invariant-loop-worker : goal.invariant-loop-worker
invariant-loop-worker g l = record {
  printed : Prints g.K.Sink.written g.K.Sink.faults l.fn.out l.out (numbered worker_lines l.from (run_of l.from l.worker l.self.parts.now));
  numbers : ArePartsWell l.self.parts.now → AllByRecursion IsPartNumbered (run_of l.from l.worker l.self.parts.now);
}
