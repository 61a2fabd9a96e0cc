-- SPDX-License-Identifier: GPL-2.0-only
use Rattle.shr_report.proofs.Common.{drop, ◌∷◌, [], PrintsTo, line, numbered, numeral}
use Rattle.shr_report.proofs.text.names.Given as goal

abbrev pub invariant-loop-i : goal.invariant-loop-i
invariant-loop-i g l = PrintsTo g.K.Sink.written g.K.Sink.faults l.fn.out l.out (numbered (λ n name. line l.first (numeral n ∷ name ∷ [])) 0 l.names) (numbered (λ n name. line l.first (numeral n ∷ name ∷ [])) l.i (drop l.i l.names))
