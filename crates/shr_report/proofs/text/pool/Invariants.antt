-- SPDX-License-Identifier: GPL-2.0-only
use Rattle.shr_report.proofs.Common.{drop, PrintsTo, numbered, pool_entry_line}
use Rattle.shr_report.proofs.text.pool.Given as goal

abbrev pub invariant-loop-i : goal.invariant-loop-i
invariant-loop-i g l = PrintsTo g.K.Sink.written g.K.Sink.faults l.fn.out l.out (numbered pool_entry_line 0 l.entries) (numbered pool_entry_line l.i (drop l.i l.entries))
