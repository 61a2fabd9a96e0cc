-- SPDX-License-Identifier: GPL-2.0-only
use Rattle.shr_report.proofs.Common.{drop, PrintsTo, numbered, lookups_line}
use Rattle.shr_report.proofs.text.lookups.Given as goal

abbrev pub invariant-loop-id : goal.invariant-loop-id
invariant-loop-id g l = PrintsTo g.K.Sink.written g.K.Sink.faults l.fn.out l.out (numbered lookups_line 0 l.numbers) (numbered lookups_line l.id (drop l.id l.numbers))
