-- SPDX-License-Identifier: GPL-2.0-only
use Rattle.shr_report.proofs.Common.{drop, PrintsTo, numbered, tree_line}
use Rattle.shr_report.proofs.text.tree.Given as goal

abbrev pub invariant-loop-i : goal.invariant-loop-i
invariant-loop-i g l = PrintsTo g.K.Sink.written g.K.Sink.faults l.fn.out l.out (numbered tree_line 0 l.entries) (numbered tree_line l.i (drop l.i l.entries))
